-- The powers of a key, found once for all that needs them: for the comparisons with P_0 to P_k, and for the joins by which F_last is judged.
use Rattle.std.specs.Prelude.{ℕ, ◌^◌, ◌≤◌, ◌≡◌, cond, List, leb, get_or}
use Rattle.fingerprint.specs.declared.Key.{Key}
use Rattle.fingerprint.specs.declared.Power.{Power}
use Rattle.fingerprint.specs.Fingerprint.{power, no_power}
use Rattle.ladder.specs.Prefix.{levels, prefix_length}
use Rattle.lists.specs.Lists.{tabulate}
use Rattle.signature.specs.Signature.{places}
use Rattle.powers.specs.declared.Powers.{Powers}

-- r to 1, 2, 4 .. 2^k, where 2^k is the first that is not below the most bytes asked for; 0 past them.
abbrev pub squares_of : Key → ℕ → List Power
squares_of key most = tabulate (λ i. cond (leb i (levels most)) (power key (2 ^ i)) no_power) places

abbrev pub powers_of : Key → ℕ → Powers
powers_of key most = record { key = key; most = most }

-- r to |P_i| for each tested beginning P_0 .. P_k.
abbrev pub Shifts : Key → ℕ → List Power → Type 0
Shifts key m shifts = (i : ℕ) → i ≤ levels m → get_or shifts i no_power ≡ power key (prefix_length m i)
