-- Where no record is needed, none makes a difference.
use Rattle.std.proofs.Common.{◌≡◌, ℕ, ◌≤◌, Bool, true, false, cond, eqb, ne_eqb, not, ◌&&◌, ◌||◌, List, [], ◌∷◌, length, Option, None, Some, is_none, refl, sym, ap, ◌∙◌, arith}
use Rattle.std.proofs.lemmas.Bool.{eqb-false}
use Rattle.std.specs.Option.{ForSome}
use Rattle.rpg_program.specs.Forms.{form_at}
use Rattle.rpg_program.specs.Input.{TypeRow}
use Rattle.rpg_cycle.proofs.Others.{IsOther, details_keep, insert_other, remove_other}
use Rattle.rpg_cycle_records.specs.Earlier.{Left, Selected, last_of_file, left_by, match_fields, match_value}
use Rattle.rpg_cycle_records.specs.Identifying.{IsOf, IsOfNone, Misplaced, Trial, identified, is_valid_record, padded, trial_weight}
use Rattle.rpg_cycle_records.specs.Levels.{is_in_record}
use Rattle.rpg_cycle_records.specs.Matching.{exceeds}
use Rattle.rpg_cycle_records.specs.Waiting.{InputState, Inputs, has_match, takes_in, with_waiting}
use Rattle.rpg_program.specs.Ends as effects
use Rattle.rpg_program.specs.declared.input.InputFile.{InputFile}
use Rattle.rpg_program.specs.declared.input.InputFile.TheVariants.{Primary, Secondary}
use Rattle.std.specs.List.{list_all}
use Rattle.rpg_cycle.specs.Ends.{PhaseEnd, Continues, EndOfJob, Halt, Wrong}
use Rattle.rpg_cycle.specs.Indicators.{any_on, first_page, halt_indicators, is_on, last_record, level_indicators, with_all, with_one, without_type, without_types}
use Rattle.rpg_cycle.specs.Phases.{Cycle, Done, Phase, UnderWay, all_off, begun, detail_lines, without_output, done, either, halt_if_indicated, identify, needs_record, read_record, select_one, select_record, set_off, take_in, take_type, with_config, with_inputs, ◌before◌}
use Rattle.rpg_cycle.specs.Staging.{after_selection}
use Rattle.rpg_machine.specs.Config.{Config, Output, charged}
use Rattle.rpg_program.specs.Constants.{word_at}
use Rattle.rpg_program.specs.Kept.{IsOverflowIndicator, IsProgram}
use Rattle.rpg_program.specs.Object.{Object, has_file, lines_of}

-- ---- indicators that stay

others : (o : Option ℕ) (n : ℕ) → ForSome o IsOverflowIndicator → ((k : ℕ) → 112 ≤ k → k ≤ 119 → n ≡ k → ⊥) → IsOther o n
others o n h far = λ k is. let i = h k is in ne_eqb n k (far k i.lowest i.highest)

abbrev AllSame : Config → Config → List ℕ → Type 0
AllSame c d [] = Unit {0}
AllSame c d (n ∷ ns) = (is_on d n ≡ is_on c n) × AllSame c d ns

any_same : (c d : Config) (ns : List ℕ) → AllSame c d ns → any_on d ns ≡ any_on c ns
any_same c d [] h = refl
any_same c d (n ∷ ns) h = ap (λ b. b || any_on d ns) h.0 ∙ ap (λ b. is_on c n || b) (any_same c d ns h.1)

one_stays : (k n : ℕ) (on : Bool) (c : Config) → eqb n k ≡ false → is_on (with_one k on c) n ≡ is_on c n
one_stays k n true c h = insert_other c.world.data.on k n h
one_stays k n false c h = remove_other c.world.data.on k n h

abbrev AllFar : ℕ → List ℕ → Type 0
AllFar n [] = Unit {0}
AllFar n (k ∷ ks) = (eqb n k ≡ false) × AllFar n ks

all_stay : (ks : List ℕ) (n : ℕ) (on : Bool) (c : Config) → AllFar n ks → is_on (with_all ks on c) n ≡ is_on c n
all_stay [] n on c h = refl
all_stay (k ∷ ks) n on c h = all_stay ks n on (with_one k on c) h.1 ∙ one_stays k n on c h.0

not_same : (k n : ℕ) → eqb k n ≡ false → eqb n k ≡ false
not_same k n h = ne_eqb n k (λ e. absurd (eqb-false k n h (sym e)))

type_stays : (k : ℕ) (c : Config) (b : Bool) → eqb k last_record ≡ b → is_on (cond b c (with_one k false c)) last_record ≡ is_on c last_record
type_stays k c true h = refl
type_stays k c false h = one_stays k last_record false c (not_same k last_record h)

last_of_type : (o : Option ℕ) (c : Config) → is_on (without_type o c) last_record ≡ is_on c last_record
last_of_type None c = refl
last_of_type (Some k) c = type_stays k c (eqb k last_record) refl

last_of_types : (ts : List (TypeRow ℕ)) (c : Config) → is_on (without_types ts c) last_record ≡ is_on c last_record
last_of_types [] c = refl
last_of_types (t ∷ ts) c = last_of_types ts (without_type t.indicator c) ∙ last_of_type t.indicator c

-- LR stays where all goes off
last_stays : (p : Object) (c : Config) → is_on (all_off p c) last_record ≡ is_on c last_record
last_stays p c =
    one_stays first_page last_record false (with_all level_indicators false (without_types p.types c)) refl
    ∙ all_stay level_indicators last_record false (without_types p.types c) (refl, (refl, (refl, (refl, (refl, (refl, (refl, (refl, (refl, tt)))))))))
    ∙ last_of_types p.types c

-- ---- phases that agree

-- what the one leads to, the other does
pub record Agrees (P Q : Phase) (c : UnderWay) : Type 0 where
  pub each : (e : PhaseEnd) (d : UnderWay) (out : Output) → P c e d out → Q c e d out

first_agrees : (P Q R : Phase) (c : UnderWay) → Agrees P Q c → Agrees (P before R) (Q before R) c
first_agrees P Q R c h = record { each = λ e d out g. (g.0, g.1, g.2, h.each g.0 g.1 g.2 g.3, g.4) }

rest_agrees : (P Q R : Phase) (c : UnderWay) → ((m : UnderWay) (put : Output) → P c Continues m put → Agrees Q R m) → Agrees (P before Q) (P before R) c
rest_agrees P Q R c h = record { each = cases }
  where
    cases : (e : PhaseEnd) (d : UnderWay) (out : Output) → (P before Q) c e d out → (P before R) c e d out
    cases e d out (Continues, m, put, first, rest) = (Continues, m, put, first, (rest.0, (h m put first).each e d rest.0 rest.1, rest.2))
    cases e d out (EndOfJob, m, put, first, rest) = (EndOfJob, m, put, first, rest)
    cases e d out (Halt k, m, put, first, rest) = (Halt k, m, put, first, rest)
    cases e d out (Wrong f, m, put, first, rest) = (Wrong f, m, put, first, rest)

-- a file that takes none in
taken_alike : (b : Bool) (x y z : Done) → b ≡ false → cond b x z ≡ cond b y z
taken_alike true x y z h = cc
taken_alike false x y z h = refl

takes_alike : (p : Object) (left : Left) (f : InputFile) (now next : Option (List ℕ)) (c : UnderWay) → takes_in p c.inputs f ≡ false → Agrees (take_in p left f now) (take_in p left f next) c
takes_alike p left f now next c off =
    let same = taken_alike (takes_in p c.inputs f) (read_record p left f now c) (read_record p left f next c) (done Continues c) off in
    record { each = λ e d out h. (h.0 ∙ ap (λ (x : Done). x.end) same, h.1 ∙ ap (λ (x : Done). x.leads) same, h.2) }

-- what is taken in from the primary file leaves the other one as it is
module _ (p : Object) (left : Left) where
  matched_apart : (bad low : Bool) (s : Option Selected) (c : UnderWay) →
      (cond bad (done (Wrong effects.Storage) c) (cond low (done (Halt 8) c) (done Continues (with_inputs (with_waiting Primary s) c)))).leads.inputs.secondary ≡ c.inputs.secondary
  matched_apart true low s c = refl
  matched_apart false true s c = refl
  matched_apart false false s c = refl

  type_apart : (text : List ℕ) (t : Trial) (c : UnderWay) → (take_type p left Primary text t c).leads.inputs.secondary ≡ c.inputs.secondary
  type_apart text (IsOf t) c =
      let s : Selected = record { type = t; text = text } in
      matched_apart (not (list_all (is_in_record (length text)) (match_fields p t))) (exceeds (last_of_file left Primary) (match_value p s)) (Some s) (with_config (charged (length (match_fields p t))) c)
  type_apart text IsOfNone c = refl
  type_apart text Misplaced c = refl

  valid_apart : (b : Bool) (text : List ℕ) (c : UnderWay) → (cond b (identify p left Primary text c) (done (Halt 7) c)).leads.inputs.secondary ≡ c.inputs.secondary
  valid_apart true text c = type_apart text (identified Primary 0 p.types text) (with_config (charged (trial_weight Primary p.types text)) c)
  valid_apart false text c = refl

  read_apart : (next : Option (List ℕ)) (c : UnderWay) → (read_record p left Primary next c).leads.inputs.secondary ≡ c.inputs.secondary
  read_apart None c = refl
  read_apart (Some text) c = valid_apart (is_valid_record p Primary text) (padded p Primary text) c

  taking_apart : (b : Bool) (next : Option (List ℕ)) (c : UnderWay) → (cond b (read_record p left Primary next c) (done Continues c)).leads.inputs.secondary ≡ c.inputs.secondary
  taking_apart true next c = read_apart next c
  taking_apart false next c = refl

  still_none : (a : Option (List ℕ)) (c m : UnderWay) (put : Output) → take_in p left Primary a c Continues m put → takes_in p c.inputs Secondary ≡ false → takes_in p m.inputs Secondary ≡ false
  still_none a c m put g off =
      ap (λ (x : InputState). has_file p Secondary && (not x.is_over && is_none x.waiting))
      (ap (λ (u : UnderWay). u.inputs.secondary) g.1 ∙ taking_apart (takes_in p c.inputs Primary) a c) ∙ off

-- where LR is on no file takes one in
lit_alike : (P Q R : Phase) (c : UnderWay) (lit : Bool) → (lit ≡ false → Agrees Q R c) → Agrees (either lit P Q) (either lit P R) c
lit_alike P Q R c true h = record { each = λ e d out g. g }
lit_alike P Q R c false h = h refl

first_alike : (p : Object) (left : Left) (now next b : Option (List ℕ)) (c : UnderWay) → (is_on c.config last_record ≡ false → takes_in p c.inputs Primary ≡ false) →
    Agrees (select_record p left now b) (select_record p left next b) c
first_alike p left now next b c off = record {
  each = (lit_alike (without_output (λ c. done Continues (with_config (with_all level_indicators true) c))) (take_in p left Primary now before take_in p left Secondary b before select_one p left)
      (take_in p left Primary next before take_in p left Secondary b before select_one p left) c (is_on c.config last_record)
      (λ dark. first_agrees (take_in p left Primary now) (take_in p left Primary next) (take_in p left Secondary b before select_one p left) c (takes_alike p left Primary now next c (off dark)))).each;
}

second_alike : (p : Object) (left : Left) (a now next : Option (List ℕ)) (c : UnderWay) → (is_on c.config last_record ≡ false → takes_in p c.inputs Secondary ≡ false) →
    Agrees (select_record p left a now) (select_record p left a next) c
second_alike p left a now next c off = record {
  each = (lit_alike (without_output (λ c. done Continues (with_config (with_all level_indicators true) c))) (take_in p left Primary a before take_in p left Secondary now before select_one p left)
      (take_in p left Primary a before take_in p left Secondary next before select_one p left) c (is_on c.config last_record)
      (λ dark. rest_agrees (take_in p left Primary a) (take_in p left Secondary now before select_one p left) (take_in p left Secondary next before select_one p left) c
      (λ m put g. first_agrees (take_in p left Secondary now) (take_in p left Secondary next) (select_one p left) m (takes_alike p left Secondary now next m (still_none p left a c m put g (off dark)))))).each;
}

not_asked : (b : Bool) → Continues ≡ cond b (Halt 6) Continues → b ≡ false
not_asked true h = cc
not_asked false h = refl

needed_not : (lit halted takes : Bool) → (not (lit || halted) && takes) ≡ false → halted ≡ false → lit ≡ false → takes ≡ false
needed_not true halted takes h g k = cc
needed_not false true takes h g k = cc
needed_not false false takes h g k = h

-- ---- the cycle

stays : (p : Object) (c : Config) (i : Inputs) (m : UnderWay) (put : Output) → IsProgram p → detail_lines p (begun p c i) Continues m put → (n : ℕ) → ((k : ℕ) → 112 ≤ k → k ≤ 119 → n ≡ k → ⊥) → is_on m.config n ≡ is_on c n
stays p c i m put kept g n far =
    ap (λ (x : Config). is_on x n) g.1.leads ∙ (details_keep (form_at p.fields) (word_at p) n p.overflow (lines_of p) c.world (others p.overflow.indicator n kept.overflow far)).same

halts_stay : (p : Object) (c : Config) (i : Inputs) (m : UnderWay) (put : Output) → IsProgram p → detail_lines p (begun p c i) Continues m put → any_on m.config halt_indicators ≡ any_on c halt_indicators
halts_stay p c i m put kept g =
    let s = stays p c i m put kept g in
    any_same c m.config halt_indicators (
      s 120 (λ k a b e. omega arith),
      (
        s 121 (λ k a b e. omega arith),
        (
          s 122 (λ k a b e. omega arith),
          (
            s 123 (λ k a b e. omega arith),
            (
              s 124 (λ k a b e. omega arith),
              (s 125 (λ k a b e. omega arith), (s 126 (λ k a b e. omega arith), (s 127 (λ k a b e. omega arith), (s 128 (λ k a b e. omega arith), tt)))),
            ),
          ),
        ),
      ),
    )

-- the fourth phase agrees wherever the phases before it lead, if it does where LR is as it was and the files are
module _ (p : Object) (left : Left) (matches : Inputs → Selected → Bool) (c : Config) (i : Inputs) (f : InputFile) (kept : IsProgram p) (needless : needs_record p c i f ≡ false) (P Q : Phase)
    (alike : (u : UnderWay) → (is_on u.config last_record ≡ false → takes_in p u.inputs f ≡ false) → Agrees P Q u) where
  after_off : (m n u : UnderWay) (put more last : Output) → detail_lines p (begun p c i) Continues m put → halt_if_indicated m Continues n more → set_off p n Continues u last →
      Agrees (P before after_selection p left matches) (Q before after_selection p left matches) u
  after_off m n u put more last g k o =
      let none : any_on c halt_indicators ≡ false = sym (halts_stay p c i m put kept g) ∙ not_asked (any_on m.config halt_indicators) k.0 in
      let lit : is_on u.config last_record ≡ is_on c last_record = ap (λ (x : UnderWay). is_on x.config last_record) o.1 ∙ last_stays p n.config
      ∙ ap (λ (x : UnderWay). is_on x.config last_record) k.1 ∙ stays p c i m put kept g last_record (λ q a b e. omega arith) in
      let same : u.inputs ≡ i = ap (λ (x : UnderWay). x.inputs) o.1 ∙ ap (λ (x : UnderWay). x.inputs) k.1 ∙ g.3 in
      first_agrees P Q (after_selection p left matches) u
      (alike u (λ dark. ap (λ (j : Inputs). takes_in p j f) same ∙ needed_not (is_on c last_record) (any_on c halt_indicators) (takes_in p i f) needless none (sym lit ∙ dark)))

  after_lines : Agrees (detail_lines p before halt_if_indicated before set_off p before P before after_selection p left matches)
      (detail_lines p before halt_if_indicated before set_off p before Q before after_selection p left matches) (begun p c i)
  after_lines =
      rest_agrees (detail_lines p) (halt_if_indicated before set_off p before P before after_selection p left matches) (halt_if_indicated before set_off p before Q before after_selection p left matches) (begun p c i)
      (λ m put g. rest_agrees halt_if_indicated (set_off p before P before after_selection p left matches) (set_off p before Q before after_selection p left matches) m
      (λ n more k. rest_agrees (set_off p) (P before after_selection p left matches) (Q before after_selection p left matches) n
      (λ u last o. after_off m n u put more last g k o)))

pub primary_unneeded : (p : Object) (earlier : List Selected) (c : Config) (i : Inputs) (now next b : Option (List ℕ)) (e : PhaseEnd) (d : UnderWay) (out : Output) → IsProgram p → needs_record p c i Primary ≡ false →
    Cycle p earlier now b (begun p c i) e d out → Cycle p earlier next b (begun p c i) e d out
primary_unneeded p earlier c i now next b e d out kept needless h =
    let left = left_by p earlier in
    (after_lines p left (has_match p earlier) c i Primary kept needless (select_record p left now b) (select_record p left next b) (first_alike p left now next b)).each e d out h

pub secondary_unneeded : (p : Object) (earlier : List Selected) (c : Config) (i : Inputs) (a now next : Option (List ℕ)) (e : PhaseEnd) (d : UnderWay) (out : Output) → IsProgram p → needs_record p c i Secondary ≡ false →
    Cycle p earlier a now (begun p c i) e d out → Cycle p earlier a next (begun p c i) e d out
secondary_unneeded p earlier c i a now next e d out kept needless h =
    let left = left_by p earlier in
    (after_lines p left (has_match p earlier) c i Secondary kept needless (select_record p left a now) (select_record p left a next) (second_alike p left a now next)).each e d out h
