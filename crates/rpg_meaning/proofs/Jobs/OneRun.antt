-- The cards have one run.
use Rattle.std.proofs.Common.{◌≡◌, ℕ, Bool, true, false, List, [], Option, None, Some, refl, sym, ap, ◌∙◌, subst}
use Rattle.rpg_cards.specs.Keys.{key_cmp}
use Rattle.rpg_cycle.specs.Ends.{PhaseEnd, Continues, EndOfJob, Halt, Wrong}
use Rattle.rpg_cycle.specs.Indicators.{last_record, level_indicators}
use Rattle.rpg_cycle.specs.Runs.{Records, printed, stored}
use Rattle.rpg_program.specs.Effect.{Effect}
use Rattle.rpg_program.specs.Lines.{detail_output, overflow_output, total_output}
use Rattle.rpg_program.specs.Ended.{on_data}
use Rattle.rpg_program.specs.Input.{record_in}
use Rattle.rpg_program.specs.Put.{Bytes}
use Rattle.rpg_program.specs.World.{World}
use Rattle.rpg_program.specs.declared.input.InputFile.TheVariants.{Primary, Secondary}
use Rattle.rpg_meaning.specs.Jobs.Cycle as cards
use Rattle.rpg_meaning.specs.Jobs.Job.{Job, JobState}
use Rattle.rpg_meaning.specs.Jobs.Phases.{Came, MeantPhase, by_effect, calculated, meant_does, meant_either, meant_from_there, meant_passes, meant_unless, is_on_in, with_turned, ◌andthen◌}
use Rattle.rpg_meaning.specs.Jobs.Runs.{AtEndOfJob, AtHalt, IsMeantRun, MeantCourse, MeantRuns, NextCycle, Then, meant_last_cycle, meant_begun, meant_left, meant_next, with_meant_cycle}
use Rattle.rpg_machine.specs.Config.{Output, no_output, with_more}
use Rattle.rpg_meaning.specs.Calculations.Laws as calculations
use Rattle.rpg_meaning.specs.Calculations.Meaning as steps
use Rattle.rpg_meaning.specs.Calculations.Meaning.{CardsCome, MeantOutcome, On, Over, Source, State, Stops, cards_step, is_finished, with_earlier_output}
use Rattle.rpg_meaning.specs.Calculations.Parts.{InDetail, InTotal, Part}
use Rattle.rpg_cycle_records.specs.Earlier.{Selected, with_record}
use Rattle.rpg_cycle_records.specs.Waiting.{Inputs, unread}

-- ---- calculations come to one end

abbrev on_state : State → MeantOutcome → State
on_state s (On t o) = t
on_state s other = s

abbrev output_of : MeantOutcome → Output
output_of (On t o) = o
output_of (Stops k t o) = o
output_of Over = no_output

module _ (source : Source) where
  at_end : (s : State) (y : MeantOutcome) → CardsCome source s y → is_finished source.sections s ≡ true → On s no_output ≡ y
  at_end _ _ (steps.AtEnd s f) g = refl
  at_end _ _ (steps.AtHalt s t o k f is) g = absurd cc
  at_end _ _ (steps.Then s t o rest f is later) g = absurd cc

  at_halt : (s : State) (y : MeantOutcome) → CardsCome source s y → (k : ℕ) (t : State) (o : Output) → is_finished source.sections s ≡ false → cards_step source s ≡ Stops k t o → Stops k t o ≡ y
  at_halt _ _ (steps.AtEnd s f) k t o g is = absurd cc
  at_halt _ _ (steps.AtHalt s u q l f at) k t o g is = sym is ∙ at
  at_halt _ _ (steps.Then s u q rest f at later) k t o g is = absurd (let never : Stops k t o ≡ On u q = sym is ∙ at in cc)

  continues : (s : State) (y : MeantOutcome) → CardsCome source s y → (t : State) (o : Output) (x : MeantOutcome) → is_finished source.sections s ≡ false → cards_step source s ≡ On t o
      → ((z : MeantOutcome) → CardsCome source t z → x ≡ z) → with_earlier_output o x ≡ y
  continues _ _ (steps.AtEnd s f) t o x g is one = absurd cc
  continues _ _ (steps.AtHalt s u q k f at) t o x g is one = absurd (let never : On t o ≡ Stops k u q = sym is ∙ at in cc)
  continues _ _ (steps.Then s u q rest f at later) t o x g is one =
      let same : On u q ≡ On t o = sym at ∙ is in
      let rests = one rest (subst (λ v. CardsCome source v rest) (ap (on_state t) same) later) in
      ap (with_earlier_output o) rests ∙ ap (λ v. with_earlier_output v rest) (sym (ap output_of same))

  one_end : (s : State) (x y : MeantOutcome) → CardsCome source s x → CardsCome source s y → x ≡ y
  one_end _ _ y (steps.AtEnd s f) other = at_end s y other f
  one_end _ _ y (steps.AtHalt s t o k f is) other = at_halt s y other k t o f is
  one_end _ _ y (steps.Then s t o rest f is later) other = continues s y other t o rest f is (λ z come. one_end t rest z later come)

-- ---- phases

-- comes to one end, one state and one output
abbrev IsFixed : MeantPhase → Type 0
IsFixed P = (s : JobState) (e f : PhaseEnd) (t u : JobState) (o q : Output) → P s e t o → P s f u q → (e ≡ f) × (t ≡ u) × (o ≡ q)

does_fixed : (g : JobState → PhaseEnd × JobState) → IsFixed (meant_does g)
does_fixed g s e f t u o q h k = (h.0 ∙ sym k.0, h.1 ∙ sym k.1, h.2 ∙ sym k.2)

effect_fixed : (g : World key_cmp → Effect key_cmp) → IsFixed (by_effect g)
effect_fixed g s e f t u o q h k = (h.0 ∙ sym k.0, h.1 ∙ sym k.1, h.2 ∙ sym k.2)

either_fixed : (P : MeantPhase) → IsFixed P → (b : Bool) → IsFixed (meant_either b meant_passes P)
either_fixed P fixed true = does_fixed (λ s. (Continues, s))
either_fixed P fixed false = fixed

either_both : (P Q : MeantPhase) → IsFixed P → IsFixed Q → (b : Bool) → IsFixed (meant_either b P Q)
either_both P Q first second true = first
either_both P Q first second false = second

unless_fixed : (test : JobState → Bool) (P : MeantPhase) → IsFixed P → IsFixed (meant_unless test P)
unless_fixed test P fixed s e f t u o q h k = either_fixed P fixed (test s) s e f t u o q h k

came_fixed : (x : MeantOutcome) → IsFixed (Came x)
came_fixed (On v p) s e f t u o q h k = (h.0 ∙ sym k.0, h.1 ∙ sym k.1, h.2 ∙ sym k.2)
came_fixed (Stops n v p) s e f t u o q h k = (h.0 ∙ sym k.0, h.1 ∙ sym k.1, h.2 ∙ sym k.2)
came_fixed Over s e f t u o q h k = absurd h

calculated_fixed : (source : Source) (part : Part) → IsFixed (calculated source part)
calculated_fixed source part s e f t u o q (x, come, h) (y, comes, k) =
    came_fixed x s e f t u o q h (subst (λ z. Came z s f u q) (sym (one_end source (calculations.part_begun part s.world s.allowance) x y come comes)) k)

then_fixed : (P Q : MeantPhase) → IsFixed P → IsFixed Q → IsFixed (P andthen Q)
then_fixed P Q first second s e f t u o q (g, m, put, h, rest) (g', m', put', h', rest') =
    let x = first s g g' m m' put put' h h' in
    by g rest (subst (λ y. meant_from_there Q y m put f u q) (sym x.0) (subst (λ y. meant_from_there Q g' y put f u q) (sym x.1) (subst (λ y. meant_from_there Q g' m' y f u q) (sym x.2) rest')))
  where
    by : (g : PhaseEnd) → meant_from_there Q g m put e t o → meant_from_there Q g m put f u q → (e ≡ f) × (t ≡ u) × (o ≡ q)
    by Continues (a, h, i) (b, k, j) = let y = second m e f t u a b h k in (y.0, y.1, i ∙ ap (with_more put) y.2 ∙ sym j)
    by EndOfJob h k = (h.0 ∙ sym k.0, h.1 ∙ sym k.1, h.2 ∙ sym k.2)
    by (Halt n) h k = (h.0 ∙ sym k.0, h.1 ∙ sym k.1, h.2 ∙ sym k.2)
    by (Wrong x) h k = absurd h

-- ---- cycles and runs

module _ (job : Job) where
  fill_fixed : IsFixed (cards.meant_fill_fields job)
  fill_fixed s e f t u o q h k = by s.selected h k
    where
      by : (r : Option Selected) → cards.meant_fill_from job r s e t o → cards.meant_fill_from job r s f u q → (e ≡ f) × (t ≡ u) × (o ≡ q)
      by None h k = does_fixed (λ s. (Continues, s)) s e f t u o q h k
      by (Some r) h k = effect_fixed (on_data (record_in job.source.forms r.text (cards.meant_inputs_at job r.type))) s e f t u o q h k

  select_fixed : (earlier : List Selected) (a b : Option (List ℕ)) → IsFixed (cards.meant_select_record job earlier a b)
  select_fixed earlier a b s e f t u o q h k =
      either_both (meant_does (λ s. (Continues, with_turned level_indicators true s)))
      (cards.meant_take_in job earlier Primary a andthen cards.meant_take_in job earlier Secondary b andthen cards.meant_select_one job earlier) (does_fixed _)
      (then_fixed (cards.meant_take_in job earlier Primary a) _ (does_fixed _)
      (then_fixed (cards.meant_take_in job earlier Secondary b) (cards.meant_select_one job earlier) (does_fixed _) (does_fixed _)))
      (is_on_in last_record s) s e f t u o q h k

  cycle_fixed : (earlier : List Selected) (a b : Option (List ℕ)) → IsFixed (cards.MeantCycle job earlier a b)
  cycle_fixed earlier a b =
      then_fixed (cards.meant_detail_lines job) _ (effect_fixed (detail_output job.source.forms job.source.words job.source.overflow job.source.lines))
      (then_fixed (cards.meant_halt_if_indicated job) _ (does_fixed _)
      (then_fixed (cards.meant_set_off job) _ (does_fixed _)
      (then_fixed (cards.meant_select_record job earlier a b) _ (select_fixed earlier a b)
      (then_fixed (cards.meant_total_time job earlier) _ (unless_fixed (cards.meant_is_bypassed job earlier) _ (then_fixed (calculated job.source InTotal) _ (calculated_fixed job.source InTotal) (effect_fixed (total_output job.source.forms job.source.words job.source.overflow job.source.lines))))
      (then_fixed (cards.meant_end_where_last job) _ (does_fixed _)
      (then_fixed (cards.meant_overflow_lines job) _ (unless_fixed _ (by_effect (overflow_output job.source.forms job.source.words job.source.overflow job.source.lines)) (effect_fixed (overflow_output job.source.forms job.source.words job.source.overflow job.source.lines)))
      (then_fixed (cards.meant_show_match job earlier) _ (does_fixed _)
      (then_fixed (cards.meant_fill_fields job) (calculated job.source InDetail) fill_fixed (calculated_fixed job.source InDetail)))))))))

  next_fixed : (earlier : List Selected) (rs : Records) (w : World key_cmp) (i : Inputs) (e f : PhaseEnd) (t u : JobState) (o q : Output)
      → NextCycle job earlier rs w i e t o → NextCycle job earlier rs w i f u q → (e ≡ f) × (t ≡ u) × (o ≡ q)
  next_fixed earlier rs w i e f t u o q h k =
      cycle_fixed earlier (meant_next job (meant_begun job w i) Primary rs.primary) (meant_next job (meant_begun job w i) Secondary rs.secondary) (meant_begun job w i) e f t u o q h k

  ends_job : (earlier : List Selected) (rs : Records) (w : World key_cmp) (i : Inputs) (l : MeantCourse) → MeantRuns job earlier rs w i l
      → (t : JobState) (out : Output) → NextCycle job earlier rs w i EndOfJob t out → meant_last_cycle EndOfJob out ≡ l
  ends_job _ _ _ _ _ (AtEndOfJob earlier rs w i u put other) t out cycle = ap (meant_last_cycle EndOfJob) (next_fixed earlier rs w i EndOfJob EndOfJob t u out put cycle other).2
  ends_job _ _ _ _ _ (AtHalt earlier rs w i k u put other) t out cycle = absurd (let never = (next_fixed earlier rs w i EndOfJob (Halt k) t u out put cycle other).0 in cc)
  ends_job _ _ _ _ _ (Then earlier rs w i u put rest other later) t out cycle = absurd (let never = (next_fixed earlier rs w i EndOfJob Continues t u out put cycle other).0 in cc)

  halts : (earlier : List Selected) (rs : Records) (w : World key_cmp) (i : Inputs) (l : MeantCourse) → MeantRuns job earlier rs w i l
      → (n : ℕ) (t : JobState) (out : Output) → NextCycle job earlier rs w i (Halt n) t out → meant_last_cycle (Halt n) out ≡ l
  halts _ _ _ _ _ (AtEndOfJob earlier rs w i u put other) n t out cycle = absurd (let never = (next_fixed earlier rs w i (Halt n) EndOfJob t u out put cycle other).0 in cc)
  halts _ _ _ _ _ (AtHalt earlier rs w i k u put other) n t out cycle =
      let same = next_fixed earlier rs w i (Halt n) (Halt k) t u out put cycle other in
      ap (λ e. meant_last_cycle e out) same.0 ∙ ap (meant_last_cycle (Halt k)) same.2
  halts _ _ _ _ _ (Then earlier rs w i u put rest other later) n t out cycle = absurd (let never = (next_fixed earlier rs w i (Halt n) Continues t u out put cycle other).0 in cc)

  continues_to : (earlier : List Selected) (rs : Records) (w : World key_cmp) (i : Inputs) (l : MeantCourse) → MeantRuns job earlier rs w i l
      → (t : JobState) (out : Output) (k : MeantCourse) → NextCycle job earlier rs w i Continues t out
      → ((m : MeantCourse) → MeantRuns job (with_record t.selected earlier) (meant_left job (meant_begun job w i) rs) t.world t.inputs m → k ≡ m) → with_meant_cycle out k ≡ l
  continues_to _ _ _ _ _ (AtEndOfJob earlier rs w i u put other) t out k cycle one = absurd (let never = (next_fixed earlier rs w i Continues EndOfJob t u out put cycle other).0 in cc)
  continues_to _ _ _ _ _ (AtHalt earlier rs w i n u put other) t out k cycle one = absurd (let never = (next_fixed earlier rs w i Continues (Halt n) t u out put cycle other).0 in cc)
  continues_to _ _ _ _ _ (Then earlier rs w i u put rest other later) t out k cycle one =
      let same = next_fixed earlier rs w i Continues Continues t u out put cycle other in
      let rests = one rest (subst (λ (v : JobState). MeantRuns job (with_record v.selected earlier) (meant_left job (meant_begun job w i) rs) v.world v.inputs rest) (sym same.1) later) in
      ap (with_meant_cycle out) rests ∙ ap (λ o. with_meant_cycle o rest) same.2

  pub runs_one : (earlier : List Selected) (rs : Records) (w : World key_cmp) (i : Inputs) (k l : MeantCourse) → MeantRuns job earlier rs w i k → MeantRuns job earlier rs w i l → k ≡ l
  runs_one _ _ _ _ _ l (AtEndOfJob earlier rs w i t out cycle) other = ends_job earlier rs w i l other t out cycle
  runs_one _ _ _ _ _ l (AtHalt earlier rs w i n t out cycle) other = halts earlier rs w i l other n t out cycle
  runs_one _ _ _ _ _ l (Then earlier rs w i t out rest cycle later) other =
      continues_to earlier rs w i l other t out rest cycle (λ m runs. runs_one (with_record t.selected earlier) (meant_left job (meant_begun job w i) rs) t.world t.inputs rest m later runs)

  same_bytes : (a b : Bytes) → a.print ≡ b.print → a.disk ≡ b.disk → a ≡ b
  same_bytes a b p q = λ i. record { print = p i; disk = q i }

  pub runs_are_one : (w : World key_cmp) (records : Records) (k l : MeantCourse) (a b : Bytes) → IsMeantRun job w records k a → IsMeantRun job w records l b → (k ≡ l) × (a ≡ b)
  runs_are_one w records k l a b h g =
      let same = runs_one [] records w unread k l h.runs g.runs in
      (same, same_bytes a b (h.print ∙ ap (λ (x : MeantCourse). printed x.output) same ∙ sym g.print) (h.disk ∙ ap (λ (x : MeantCourse). stored x.output) same ∙ sym g.disk))
