-- A call of a reader of records, from what it read.
use Rattle.std.proofs.Common.{◌≡◌, ℕ, Bool, List, ◌++◌, Option, sym, ap, subst, ◌∙◌, append_assoc}
use Rattle.rpg_files.specs.NextLine.{CanFollow}
use Rattle.rpg_files.specs.Reads.{Reads}
use Rattle.rpg_files.specs.Reading.{Advances}

pub advances : (a b : Option (List ℕ)) (old mid whole new : List ℕ) (ended ended' : Bool) (Fact : List ℕ → List ℕ → Type 0) → mid ≡ old → Reads a b mid whole ended ended'
    → ((more : List ℕ) → CanFollow ended' more → Fact (whole ++ more) (new ++ more))
    → Advances (record { buffered = old; ended = ended; remaining = a }) (record { buffered = new; ended = ended'; remaining = b }) Fact
advances a b old mid whole new ended ended' Fact same reads fact = record {
  read = reads.read;
  consumed = reads.consumed;
  none_at_end = reads.none_at_end;
  at_end = reads.at_end;
  fact = λ more can.
      let joined : old ++ (reads.read ++ more) ≡ whole ++ more = sym (append_assoc old reads.read more) ∙ ap (λ (front : List ℕ). (front ++ reads.read) ++ more) (sym same) ∙ ap (λ (front : List ℕ). front ++ more) (sym reads.bytes) in
      subst (λ (bytes : List ℕ). Fact bytes (new ++ more)) (sym joined) (fact more can);
}
