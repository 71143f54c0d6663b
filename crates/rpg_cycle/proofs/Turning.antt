-- Indicators that are turned, and steps that are charged, wherever the form is.
use Rattle.std.proofs.Common.{◌≡◌, ℕ, ◌<◌, Bool, true, false, cond, eqb, List, [], ◌∷◌, All, map, Option, None, Some, refl, sym, ap, ◌∙◌, subst}
use Rattle.std.proofs.lemmas.List.{get_or-map, length-map}
use Rattle.std.specs.Option.{ForSome}
use Rattle.rpg_paper.specs.Paper.{Position}
use Rattle.rpg_program.specs.Input.{TypeRow}
use Rattle.rpg_cycle.proofs.Composing.{quietly}
use Rattle.rpg_cycle.specs.Doing.{Does, Beside, DoesAlone, under_way}
use Rattle.rpg_cycle_records.specs.Earlier.{Selected}
use Rattle.rpg_cycle_records.specs.Waiting.{Inputs}
use Rattle.rpg_cycle.specs.Ends.{Continues}
use Rattle.rpg_cycle_records.specs.Fitting.{IsTypeFit}
use Rattle.rpg_cycle.specs.Indicators.{first_page, last_record, level_indicators, matching_record, with_all, with_one, with_type, without_type, without_types}
use Rattle.rpg_cycle.specs.Phases.{all_off, done, has_no_overflow, if_selected, set_off, show_match, with_config}
use Rattle.rpg_machine.specs.Config.{Config}
use Rattle.rpg_machine.specs.Running.{Running, config_on}
use Rattle.rpg_program.specs.Kept.{IsIndicator}
use Rattle.rpg_program.specs.Object.{Object, type_row}
use Rattle.rpg_program.specs.declared.rows.RecordType.{RecordType}

-- ---- on the paper

pub all_on : (previous : Option Position) (ns : List ℕ) (on : Bool) (c : Config) → config_on previous (with_all ns on c) ≡ with_all ns on (config_on previous c)
all_on previous [] on c = refl
all_on previous (n ∷ ns) on c = all_on previous ns on (with_one n on c)

pub type_on : (previous : Option Position) (n : Option ℕ) (c : Config) → config_on previous (with_type n c) ≡ with_type n (config_on previous c)
type_on previous None c = refl
type_on previous (Some n) c = refl

unless_last : (previous : Option Position) (b : Bool) (n : ℕ) (c : Config) → config_on previous (cond b c (with_one n false c)) ≡ cond b (config_on previous c) (with_one n false (config_on previous c))
unless_last previous true n c = refl
unless_last previous false n c = refl

without_on : (previous : Option Position) (n : Option ℕ) (c : Config) → config_on previous (without_type n c) ≡ without_type n (config_on previous c)
without_on previous None c = refl
without_on previous (Some n) c = unless_last previous (eqb n last_record) n c

withouts_on : (previous : Option Position) (ts : List (TypeRow ℕ)) (c : Config) → config_on previous (without_types ts c) ≡ without_types ts (config_on previous c)
withouts_on previous [] c = refl
withouts_on previous (t ∷ ts) c = withouts_on previous ts (without_type t.indicator c) ∙ ap (without_types ts) (without_on previous t.indicator c)

off_on : (previous : Option Position) (p : Object) (c : Config) → config_on previous (all_off p c) ≡ all_off p (config_on previous c)
off_on previous p c =
    ap (with_one first_page false) (all_on previous level_indicators false (without_types p.types c) ∙ ap (with_all level_indicators false) (withouts_on previous p.types c))

pub overflow_on : (previous : Option Position) (o : Option ℕ) (c : Config) → has_no_overflow o (config_on previous c) ≡ has_no_overflow o c
overflow_on previous None c = refl
overflow_on previous (Some n) c = refl

-- ---- steps and allowance are as they were

pub record Keeps (c d : Config) : Type 0 where
  pub steps : d.steps ≡ c.steps
  pub allowance : d.allowance ≡ c.allowance

then_keeps : (c d e : Config) → Keeps c d → Keeps d e → Keeps c e
then_keeps c d e h g = record { steps = g.steps ∙ h.steps; allowance = g.allowance ∙ h.allowance }

pub all_keep : (ns : List ℕ) (on : Bool) (c : Config) → Keeps c (with_all ns on c)
all_keep [] on c = record { steps = refl; allowance = refl }
all_keep (n ∷ ns) on c =
    let h = all_keep ns on (with_one n on c) in record { steps = h.steps; allowance = h.allowance }

pub type_keeps : (n : Option ℕ) (c : Config) → Keeps c (with_type n c)
type_keeps None c = record { steps = refl; allowance = refl }
type_keeps (Some n) c = record { steps = refl; allowance = refl }

last_keeps : (b : Bool) (n : ℕ) (c : Config) → Keeps c (cond b c (with_one n false c))
last_keeps true n c = record { steps = refl; allowance = refl }
last_keeps false n c = record { steps = refl; allowance = refl }

without_keeps : (n : Option ℕ) (c : Config) → Keeps c (without_type n c)
without_keeps None c = record { steps = refl; allowance = refl }
without_keeps (Some n) c = last_keeps (eqb n last_record) n c

withouts_keep : (ts : List (TypeRow ℕ)) (c : Config) → Keeps c (without_types ts c)
withouts_keep [] c = record { steps = refl; allowance = refl }
withouts_keep (t ∷ ts) c = then_keeps c (without_type t.indicator c) (without_types ts (without_type t.indicator c)) (without_keeps t.indicator c) (withouts_keep ts (without_type t.indicator c))

pub off_keeps : (p : Object) (c : Config) → Keeps c (all_off p c)
off_keeps p c =
    let h = all_keep level_indicators false (without_types p.types c) in
    let g = withouts_keep p.types c in
    record { steps = h.steps ∙ g.steps; allowance = h.allowance ∙ g.allowance }

-- ---- the phase in which all goes off

pub sets_off : (p : Object) (a b : Running) → b ≡ record a { config = all_off p a.config } → DoesAlone (set_off p) a Continues b
sets_off p a b is = record {
  each = λ s. quietly (λ c. done Continues (with_config (all_off p) c)) a b s s Continues (all_off p a.config)
      (λ previous. ap (λ (d : Config). done Continues (under_way d s)) (sym (off_on previous p a.config))) is;
}

-- the indicators of types
pub row_indicators : (p : Object) (ts : List RecordType) → All (IsTypeFit p) (map type_row ts) → All (λ (t : RecordType). ForSome t.indicator IsIndicator) ts
row_indicators p ts h k d inside =
    subst (λ (t : TypeRow ℕ). ForSome t.indicator IsIndicator) (get_or-map type_row ts k d (type_row d) inside)
    (h k (type_row d) (subst (λ n. k < n) (sym (length-map ts type_row)) inside)).indicator

-- ---- the phase that shows a match

pub shows : (matches : Inputs → Selected → Bool) (is_match : Bool) (a b : Running) (h : Beside) → is_match ≡ if_selected (matches h.inputs) h.selected → b ≡ record a { config = with_one matching_record is_match a.config } →
    Does (show_match matches) a h Continues b h
shows matches is_match a b h e is =
    quietly (λ c. done Continues (with_config (with_one matching_record (if_selected (matches c.inputs) c.selected)) c)) a b h h Continues (with_one matching_record is_match a.config)
    (λ previous. ap (λ (x : Bool). done Continues (under_way (with_one matching_record x (config_on previous a.config)) h)) (sym e)) is
