-- A record type that breaks a rule has a cause.
use Rattle.std.proofs.Common.{◌≡◌, ℕ, ◌+◌, Bool, true, false, not, ◌&&◌, ◌||◌, List, [], ◌∷◌, ◌++◌, cond, length, take, Option, Some, None, refl, sym, ap, ◌∙◌, append_assoc, length-append}
use Rattle.std.proofs.Math.Seq.{take-append_seam}
use Rattle.std.proofs.lemmas.Bool.{eq-eqb, eqb-true, false≢true}
use Rattle.std.proofs.lemmas.List.Folds.{list_any-append}
use Rattle.std.specs.Cmp.Lexicographic.{pointwise}
use Rattle.std.specs.List.{list_all, list_any, sum}
use Rattle.std.specs.Option.{is_some, option_map, option_or}
use Rattle.std.specs.Prelude.{◌==◌, nat_le}
use Rattle.rpg_program.specs.Input.{TypeRow}
use Rattle.rpg_program.specs.declared.input.ControlField.{ControlField}
use Rattle.rpg_program.specs.Object.{Object, input_length}
use Rattle.rpg_refusal_causes.proofs.First.{one_of_two, some_any, some_front, some_if, some_later, some_not_all, some_unless}
use Rattle.rpg_refusal_causes.specs.First.{cause_if, first_cause}
use Rattle.rpg_refusal_causes.specs.TypeCauses.{code_cause, control_cause, input_cause, level_length_cause, levels_cause, match_cause, matches_cause, shown_cause, twice_cause, type_cause, widths_cause}
use Rattle.rpg_refusal_causes.specs.declared.cause.RefusalCause.TheVariants as causes
use Rattle.rpg_verify_rules.specs.Indicators.{if_any, is_of_type}
use Rattle.rpg_verify_rules.specs.TypeRules.{all_measured, are_joined_as, are_matches, are_once, first_matches, is_code_in, is_control_in, is_input_in, is_measured, is_of_level, joined_width, joined_widths, measures, shows_wrongly, type_breaks}
use Rattle.rpg_verify_rules.specs.declared.rule.TypeRule.{TypeRule}
use Rattle.rpg_verify_rules.specs.declared.rule.TypeRule.TheVariants.{V3, V4, V5, V6, V7, V25, V26}

turned_on : (o : Option ℕ) → not (if_any is_of_type o) ≡ true → is_some (option_map causes.TurnedOn o) ≡ true
turned_on None h = absurd (false≢true h)
turned_on (Some n) h = refl

-- ---- joined lengths

-- a level passes, or has a cause
step : {C : Type 0} (b rest : Bool) (o : Option C) (x : C) → (not rest ≡ true → is_some o ≡ true) → not (b && rest) ≡ true → is_some (cond b o (Some x)) ≡ true
step true rest o x later h = later h
step false rest o x later h = refl

last_step : {C : Type 0} (b : Bool) (x : C) → not b ≡ true → is_some (cond b None (Some x)) ≡ true
last_step true x h = absurd (false≢true h)
last_step false x h = refl

levels_have : (level : ℕ) (ms : List ℕ) (cs : List ControlField) → not (all_measured level ms cs) ≡ true → is_some (levels_cause level ms cs) ≡ true
levels_have level [] cs h = absurd (false≢true h)
levels_have level (m ∷ []) cs h = last_step (is_measured m (joined_width level cs)) (level_length_cause level (joined_width level cs) m) h
levels_have level (m ∷ n ∷ ms) cs h =
    step (is_measured m (joined_width level cs)) (all_measured (level + 1) (n ∷ ms) cs) (levels_cause (level + 1) (n ∷ ms) cs) (level_length_cause level (joined_width level cs) m)
    (levels_have (level + 1) (n ∷ ms) cs) h

-- the joined lengths of as many levels as there are others, from a level on
abbrev widths_from : ℕ → List ℕ → List ControlField → List ℕ
widths_from level [] cs = []
widths_from level (w ∷ ws) cs = joined_width level cs ∷ widths_from (level + 1) ws cs

widths_have : (level : ℕ) (ws : List ℕ) (cs : List ControlField) → not (pointwise ◌==◌ (widths_from level ws cs) ws) ≡ true → is_some (widths_cause level ws cs) ≡ true
widths_have level [] cs h = absurd (false≢true h)
widths_have level (w ∷ ws) cs h =
    step (joined_width level cs == w) (pointwise ◌==◌ (widths_from (level + 1) ws cs) ws) (widths_cause (level + 1) ws cs) (causes.OtherMatches level (joined_width level cs) w)
    (widths_have (level + 1) ws cs) h

not_either : (b c : Bool) → not (b || c) ≡ true → not c ≡ true
not_either true c h = absurd (false≢true h)
not_either false c h = h

joined_have : (first cs : List ControlField) → not (nat_le (sum (joined_widths cs)) 256 && are_joined_as (joined_widths first) cs) ≡ true → is_some (matches_cause (joined_widths first) cs) ≡ true
joined_have first cs h =
    one_of_two (nat_le (sum (joined_widths cs)) 256) (are_joined_as (joined_widths first) cs) (cause_if (not (nat_le (sum (joined_widths cs)) 256)) (causes.LongMatches (sum (joined_widths cs))))
    (widths_cause 1 (joined_widths first) cs)
    (λ e. some_if (not (nat_le (sum (joined_widths cs)) 256)) (causes.LongMatches (sum (joined_widths cs))) e)
    (λ e. widths_have 1 (joined_widths first) cs (not_either (length cs == 0) (pointwise ◌==◌ (joined_widths cs) (joined_widths first)) e)) h

-- ---- a level that stands twice

or_true : (b : Bool) → (b || true) ≡ true
or_true true = refl
or_true false = refl

module _ (len : ℕ) (all : List ControlField) where
  -- a field of a level that stands before it
  taken : (front : List ControlField) (c : ControlField) (cs : List ControlField) → all ≡ front ++ c ∷ cs → list_any (is_of_level c.level) front ≡ true → is_some (match_cause len all (length front) c) ≡ true
  taken front c cs split e =
      let before : take (length front) all ≡ front = ap (take (length front)) split ∙ take-append_seam front (c ∷ cs) in
      some_later (cause_if (not (is_control_in len c)) (causes.Match (length front) c len)) (twice_cause all (length front) c)
      (some_if (list_any (is_of_level c.level) (take (length front) all)) (causes.Twice (length front) c.level) (ap (list_any (is_of_level c.level)) before ∙ e))

  longer : (front : List ControlField) (c : ControlField) → length (front ++ c ∷ []) ≡ length front + 1
  longer front c = length-append front (c ∷ [])

  -- one of the later fields has that level, which stands before
  again : (level : ℕ) (front cs : List ControlField) → all ≡ front ++ cs → list_any (is_of_level level) front ≡ true → list_any (is_of_level level) cs ≡ true → is_some (first_cause (match_cause len all) (length front) cs) ≡ true
  again level front [] split stands e = absurd (false≢true e)
  again level front (c ∷ cs) split stands e = by (is_of_level level c) refl e (λ more split stands h. again level more cs split stands h)
    where
      here : c.level ≡ level → list_any (is_of_level c.level) front ≡ true
      here same = ap (λ n. list_any (is_of_level n) front) same ∙ stands

      by : (b : Bool) → is_of_level level c ≡ b → (b || list_any (is_of_level level) cs) ≡ true → ((more : List ControlField) → all ≡ more ++ cs → list_any (is_of_level level) more ≡ true → list_any (is_of_level level) cs ≡ true → is_some (first_cause (match_cause len all) (length more) cs) ≡ true) → is_some (first_cause (match_cause len all) (length front) (c ∷ cs)) ≡ true
      by true is h rest = some_front (match_cause len all (length front) c) (first_cause (match_cause len all) (length front + 1) cs) (taken front c cs split (here (eqb-true c.level level is)))
      by false is h rest =
          some_later (match_cause len all (length front) c) (first_cause (match_cause len all) (length front + 1) cs)
          (ap (λ n. is_some (first_cause (match_cause len all) n cs)) (sym (longer front c))
          ∙ rest (front ++ c ∷ []) (split ∙ sym (append_assoc front (c ∷ []) cs)) (list_any-append (is_of_level level) front (c ∷ []) ∙ ap (λ b. b || list_any (is_of_level level) (c ∷ [])) stands) h)

  once_have : (front cs : List ControlField) → all ≡ front ++ cs → are_once cs ≡ false → is_some (first_cause (match_cause len all) (length front) cs) ≡ true
  once_have front [] split e = absurd (false≢true (sym e))
  once_have front (c ∷ cs) split e = by (list_any (is_of_level c.level) cs) refl e (once_have (front ++ c ∷ []) cs)
    where
      following : all ≡ (front ++ c ∷ []) ++ cs
      following = split ∙ sym (append_assoc front (c ∷ []) cs)

      own : list_any (is_of_level c.level) (front ++ c ∷ []) ≡ true
      own = list_any-append (is_of_level c.level) front (c ∷ []) ∙ ap (λ b. list_any (is_of_level c.level) front || (b || false)) (eq-eqb c.level c.level refl) ∙ or_true (list_any (is_of_level c.level) front)

      later : is_some (first_cause (match_cause len all) (length (front ++ c ∷ [])) cs) ≡ true → is_some (first_cause (match_cause len all) (length front) (c ∷ cs)) ≡ true
      later h =
          some_later (match_cause len all (length front) c) (first_cause (match_cause len all) (length front + 1) cs)
          (ap (λ n. is_some (first_cause (match_cause len all) n cs)) (sym (longer front c)) ∙ h)

      by : (b : Bool) → list_any (is_of_level c.level) cs ≡ b → (not b && are_once cs) ≡ false
          → (all ≡ (front ++ c ∷ []) ++ cs → are_once cs ≡ false → is_some (first_cause (match_cause len all) (length (front ++ c ∷ [])) cs) ≡ true) → is_some (first_cause (match_cause len all) (length front) (c ∷ cs)) ≡ true
      by true is h rest = later (again c.level (front ++ c ∷ []) cs following own is)
      by false is h rest = later (rest following h)

-- each part of the rule of match fields has a cause
matches_have : (len : ℕ) (first cs : List ControlField) → not (are_matches len (joined_widths first) cs) ≡ true
    → is_some (option_or (first_cause (match_cause len cs) 0 cs) (matches_cause (joined_widths first) cs)) ≡ true
matches_have len first cs h = by (list_all (is_control_in len) cs) (are_once cs) refl refl h
  where
    by : (a b : Bool) → list_all (is_control_in len) cs ≡ a → are_once cs ≡ b → not (a && (b && (nat_le (sum (joined_widths cs)) 256 && are_joined_as (joined_widths first) cs))) ≡ true
        → is_some (option_or (first_cause (match_cause len cs) 0 cs) (matches_cause (joined_widths first) cs)) ≡ true
    by false b is once h =
        some_front (first_cause (match_cause len cs) 0 cs) (matches_cause (joined_widths first) cs)
        (some_not_all (match_cause len cs) (is_control_in len) (λ n c e. some_front (cause_if (not (is_control_in len c)) (causes.Match n c len)) (twice_cause cs n c) (some_unless (is_control_in len c) (causes.Match n c len) e)) 0 cs
        (ap not is))
    by true false is once h = some_front (first_cause (match_cause len cs) 0 cs) (matches_cause (joined_widths first) cs) (once_have len cs [] cs refl once)
    by true true is once h = some_later (first_cause (match_cause len cs) 0 cs) (matches_cause (joined_widths first) cs) (joined_have first cs h)

pub type_has : (r : TypeRule) (p : Object) (t : TypeRow ℕ) → type_breaks r p t ≡ true → is_some (type_cause r p t) ≡ true
unfolding type_breaks type_cause
type_has V3 p t h = let len = input_length p t.file in some_not_all (code_cause len) (is_code_in len) (λ n c e. some_unless (is_code_in len c) (causes.Code n c.position len) e) 0 t.codes h
type_has V4 p t h = turned_on t.indicator h
type_has V5 p t h =
    let len = input_length p t.file in
    one_of_two (list_all (is_control_in len) t.levels) (all_measured 1 (measures p.types) t.levels) (first_cause (control_cause len) 0 t.levels) (levels_cause 1 (measures p.types) t.levels)
    (some_not_all (control_cause len) (is_control_in len) (λ n c e. some_unless (is_control_in len c) (causes.Control n c len) e) 0 t.levels) (levels_have 1 (measures p.types) t.levels) h
type_has V6 p t h = let len = input_length p t.file in some_not_all (input_cause p len) (is_input_in p len) (λ n f e. some_unless (is_input_in p len f) (causes.Input n f len) e) 0 t.inputs h
type_has V7 p t h = let len = input_length p t.file in some_any (shown_cause p len) (shows_wrongly p len) (λ n f e. some_if (shows_wrongly p len f) (causes.Shown n f) e) 0 t.inputs h
type_has V25 p t h = refl
type_has V26 p t h = matches_have (input_length p t.file) (first_matches p.types) t.matches h
