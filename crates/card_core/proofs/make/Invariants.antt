-- `card_core::make` meets its contract: the builder is led through the passage byte by byte.
use lib.ListN.{length, take}
use Rattle.signature.specs.Made.{Making}
use Rattle.card_core.proofs.make.Given as goal

abbrev pub invariant-loop-byte : goal.invariant-loop-byte
invariant-loop-byte l = Making (length l.passage) l.initial.builder.key (take l.byte-index l.passage) l.builder
