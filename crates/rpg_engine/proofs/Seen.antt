-- A record that a reader returns has characters alone.
use Rattle.std.proofs.Common.{◌≡◌, ℕ, Bool, true, false, ◌&&◌, List, [], Option, None, Some, Ok, refl, ap, ◌∙◌}
use Rattle.std.specs.List.{list_all}
use Rattle.std.specs.Option.{option_map}
use denote.Bor.{Bor}
use Rattle.rpg_cycle.specs.Doing.{IsSeen}
use Rattle.rpg_engine.specs.Streaming.{ReadsIfNeeded, record_with}
use Rattle.rpg_files.specs.Reading.{is_record, record_of}
use Rattle.rpg_files.specs.declared.reader.Next.{Next}
use Rattle.rpg_files.specs.declared.reader.Next.TheVariants as next
use Rattle.rpg_files.specs.declared.reader.RecordReader.{RecordReader}
use Rattle.rpg_text.specs.Texts.{is_character}

second_true : (a b : Bool) → (a && b) ≡ true → b ≡ true
second_true true b h = h
second_true false b h = cc

given : {R : Type 0} (remaining : R → Option (List ℕ)) (needed : Bool) (old new : RecordReader R) → ReadsIfNeeded remaining needed old (Ok next.Record) new →
    list_all is_character (record_of new) ≡ true
given remaining true old new h =
    let facts = (h.needed refl).0.input.fact [] (λ _. refl) in
    second_true _ _ facts.1
given remaining false old new h = let none = (h.unneeded refl).0 in cc

text_given : (o : Option (Bor (List ℕ))) (text : List ℕ) → option_map (λ (t : Bor (List ℕ)). t.now) o ≡ Some text → list_all is_character text ≡ true → IsSeen true o
text_given None text h all = cc
text_given (Some t) text h all = let same : t.now ≡ text = cc in λ _. ap (λ (xs : List ℕ). list_all is_character xs) same ∙ all

pub seen_record : {R : Type 0} (remaining : R → Option (List ℕ)) (needed : Bool) (old new : RecordReader R) (first : Next) (o : Option (Bor (List ℕ))) →
    ReadsIfNeeded remaining needed old (Ok first) new → option_map (λ (t : Bor (List ℕ)). t.now) o ≡ record_with new first → IsSeen (is_record (Ok first)) o
seen_record remaining needed old new next.Record o h same = text_given o (record_of new) same (given remaining needed old new h)
seen_record remaining needed old new next.Bad o h same = λ e. cc
seen_record remaining needed old new next.End o h same = λ e. cc
