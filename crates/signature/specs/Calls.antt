-- The card maker's three calls: for each the number of its refusal, 0 where it is accepted, and what it hands back.
use Rattle.std.specs.Prelude.{ℕ, suc, cond, ltb, eqb}
use Rattle.fingerprint.specs.declared.Key.{Key}
use Rattle.fingerprint.specs.Fingerprint.{key_fits, pushed}
use Rattle.signature.specs.declared.Signature.{Signature}
use Rattle.signature.specs.declared.Builder.{Builder}
use Rattle.signature.specs.Signature.{max_length, builder_fits, stored, nothing_taken, no_builder, no_signature}

-- "The maker is told m and r first": 1 empty, 2 overlong, 3 key.
abbrev pub begin_refusal : ℕ → Key → ℕ
begin_refusal m key = cond (eqb m 0) 1 (cond (ltb max_length m) 2 (cond (key_fits key) 0 3))

unfoldable pub begun : ℕ → Key → Builder
begun m key = cond (eqb (begin_refusal m key) 0) (nothing_taken m key) no_builder

-- ".. then takes the bytes singly": 10 misfit, 5 surplus.
abbrev pub push_refusal : Builder → ℕ
push_refusal b = cond (builder_fits b) (cond (ltb b.taken b.length) 0 5) 10

abbrev pub one_more : Builder → ℕ → Builder
one_more b byte =
    record {
      length = b.length;
      key = b.key;
      taken = suc b.taken;
      print = pushed b.key b.print byte;
      prints = stored b.length (suc b.taken) (pushed b.key b.print byte) b.prints;
    }

unfoldable pub after_push : Builder → ℕ → Builder
after_push b byte = cond (eqb (push_refusal b) 0) (one_more b byte) b

-- The card is asked for: 10 misfit, 4 unfinished.
abbrev pub finish_refusal : Builder → ℕ
finish_refusal b = cond (builder_fits b) (cond (ltb b.taken b.length) 4 0) 10

unfoldable pub finished : Builder → Signature
finished b =
    cond (eqb (finish_refusal b) 0)
    (record { length = b.length; key = b.key; prints = b.prints })
    no_signature
