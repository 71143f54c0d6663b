-- Phases done one after another.
use Rattle.rpg_paper.specs.Form.{line_of}
use Rattle.std.proofs.Common.{Result, Ok, Err, IfOk, ◌≡◌, ℕ, Bool, true, false, [], ◌++◌, List, Option, None, Some, refl, sym, ap, ◌∙◌, subst, append_assoc, append-nil}
use Rattle.std.specs.Option.{ForSome}
use Rattle.std.specs.Result.{IsErrAnd}
use Rattle.rpg_paper.proofs.Papers.{bytes_from-append}
use Rattle.rpg_paper.specs.Paper.{Placed, Position, bytes_from, last_position_from}
use Rattle.rpg_program.proofs.Putting.{disk-append, end_from-lines}
use Rattle.rpg_program.specs.Put.{Bytes, disk_bytes, with_output}
use Rattle.rpg_cycle.specs.Doing.{Does, DoesAfter, Beside, DoesAlone, under_way, unselected}
use Rattle.rpg_cycle_records.specs.Waiting.{unread}
use Rattle.rpg_program.specs.Object.{Object}
use Rattle.rpg_cycle.specs.Ends.{PhaseEnd, Continues, EndOfJob, Halt}
use Rattle.rpg_program.specs.Halts.{halt_number}
use Rattle.rpg_cycle.specs.Phases.{Done, Phase, UnderWay, without_output, done, either, nothing_done, unless, ◌before◌}
use Rattle.rpg_cycle.specs.Stages.{IfStops, UnlessNoMemory, job_end}
use Rattle.rpg_cycle.specs.declared.ends.JobEnd.{JobEnd}
use Rattle.rpg_cycle.specs.declared.ends.JobEnd.TheVariants as jobs
use Rattle.rpg_cycle.specs.declared.ends.PhaseStop.{PhaseStop}
use Rattle.rpg_cycle.specs.declared.ends.PhaseStop.TheVariants as stops
use Rattle.rpg_machine.specs.Config.{Config, no_output, with_more}
use Rattle.rpg_machine.specs.Running.{Running, config_on}

-- ---- bytes

bytes_are : (p q : Bytes) → p.print ≡ q.print → p.disk ≡ q.disk → p ≡ q
bytes_are p q h g = ap (λ x. record { print = x; disk = p.disk }) h ∙ ap (λ x. record { print = q.print; disk = x }) g

-- two outputs add up
pub output_both : (previous : Option Position) (xs ys : List Placed) (rs ss : List (List ℕ)) (p : Bytes) →
    with_output (last_position_from previous xs) ys ss (with_output previous xs rs p) ≡ with_output previous (xs ++ ys) (rs ++ ss) p
output_both previous xs ys rs ss p = bytes_are _ _
    (append_assoc p.print (bytes_from previous xs) (bytes_from (last_position_from previous xs) ys) ∙ ap (λ z. p.print ++ z) (sym (bytes_from-append previous xs ys)))
    (append_assoc p.disk (disk_bytes rs) (disk_bytes ss) ∙ ap (λ z. p.disk ++ z) (sym (disk-append rs ss)))

-- nothing is output
pub output_none : (previous : Option Position) (p : Bytes) → p ≡ with_output previous [] [] p
output_none previous p = bytes_are _ _ (sym (append-nil p.print)) (sym (append-nil p.disk))

-- ---- two phases

both_after : (P Q : Phase) (previous : Option Position) (a b c : Running) (s t u : Beside) (e : PhaseEnd) (x : DoesAfter P previous a s Continues b t) →
    DoesAfter Q (last_position_from previous x.out.lines) b t e c u → DoesAfter (P before Q) previous a s e c u
both_after P Q previous a b c s t u e x y =
    let ends = end_from-lines previous x.out.lines y.out.lines in
    record {
      out = with_more x.out y.out;
      phase = (
        Continues,
        under_way (config_on (last_position_from previous x.out.lines) b.config) t,
        x.out,
        x.phase,
        (y.out, subst (λ (q : Option Position). Q (under_way (config_on (last_position_from previous x.out.lines) b.config) t) e (under_way (config_on q c.config) u) y.out) (sym ends) y.phase, refl),
      );
      last = y.last ∙ ap line_of (sym ends);
      bytes = y.bytes ∙ ap (with_output (last_position_from previous x.out.lines) y.out.lines y.out.records) x.bytes
          ∙ output_both previous x.out.lines y.out.lines x.out.records y.out.records a.output;
    }

-- the one phase went on, and then the other was done
pub goes : {P Q : Phase} {a b c : Running} {s t u : Beside} {e : PhaseEnd} → Does P a s Continues b t → Does Q b t e c u → Does (P before Q) a s e c u
goes {P} {Q} {a} {b} {c} {s} {t} {u} {e} h g = record {
  program = g.program ∙ h.program;
  following = λ previous l.
      let x = h.following previous l in
      both_after P Q previous a b c s t u e x (g.following (last_position_from previous x.out.lines) x.last);
}

-- the one phase ended the job
ends_after : (P Q : Phase) (previous : Option Position) (a b : Running) (s t : Beside) (e : JobEnd) → DoesAfter P previous a s (job_end e) b t → DoesAfter (P before Q) previous a s (job_end e) b t
ends_after P Q previous a b s t jobs.EndOfJob x = record {
  out = x.out;
  phase = (EndOfJob, under_way (config_on (last_position_from previous x.out.lines) b.config) t, x.out, x.phase, (refl, refl, refl));
  last = x.last;
  bytes = x.bytes;
}
ends_after P Q previous a b s t (jobs.Halt k) x = record {
  out = x.out;
  phase = (Halt (halt_number k), under_way (config_on (last_position_from previous x.out.lines) b.config) t, x.out, x.phase, (refl, refl, refl));
  last = x.last;
  bytes = x.bytes;
}

pub ends : {P Q : Phase} {a b : Running} {s t : Beside} (e : JobEnd) → Does P a s (job_end e) b t → Does (P before Q) a s (job_end e) b t
ends {P} {Q} {a} {b} {s} {t} e h = record { program = h.program; following = λ previous l. ends_after P Q previous a b s t e (h.following previous l) }

-- a phase that puts nothing out and leaves the form where it is
pub quietly : (f : UnderWay → Done) (a b : Running) (s t : Beside) (e : PhaseEnd) (d : Config) →
    ((previous : Option Position) → f (under_way (config_on previous a.config) s) ≡ done e (under_way (config_on previous d) t)) → b ≡ record a { config = d } → Does (without_output f) a s e b t
quietly f a b s t e d h is = subst (λ (r : Running). Does (without_output f) a s e r t) (sym is) (record {
  program = refl;
  following = λ previous l. record {
    out = no_output;
    phase = (ap (λ (x : Done). x.end) (sym (h previous)), ap (λ (x : Done). x.leads) (sym (h previous)), refl);
    last = l;
    bytes = output_none previous a.output;
  };
})

-- ---- phases that select nothing

pub passes_goes : {P Q : Phase} {a b c : Running} {e : PhaseEnd} → DoesAlone P a Continues b → DoesAlone Q b e c → DoesAlone (P before Q) a e c
passes_goes h g = record { each = λ s. goes (h.each s) (g.each s) }

-- the program is the same after it
pub same_program : {P : Phase} {a b : Running} {e : PhaseEnd} → DoesAlone P a e b → b.program ≡ a.program
same_program h = (h.each (unselected unread)).program

-- and then one of the machine's own program
pub goes_own : {P : Phase} (F : Object → Phase) {a b c : Running} {e : PhaseEnd} → DoesAlone P a Continues b → DoesAlone (F b.program) b e c → DoesAlone (P before F a.program) a e c
goes_own F {a} {b} {c} {e} h g = passes_goes h (subst (λ (p : Object). DoesAlone (F p) b e c) (same_program h) g)

pub passes_ends : {P Q : Phase} {a b : Running} (e : JobEnd) → DoesAlone P a (job_end e) b → DoesAlone (P before Q) a (job_end e) b
passes_ends e h = record { each = λ s. ends e (h.each s) }

-- a phase that is left out
pub left_out : (test : Config → Bool) (P : Phase) (a : Running) → ((previous : Option Position) → test (config_on previous a.config) ≡ true) → DoesAlone (unless test P) a Continues a
left_out test P a h = record {
  each = λ s. record {
    program = refl;
    following = λ previous l. record {
      out = no_output;
      phase = subst (λ (b : Bool). either b nothing_done P (under_way (config_on previous a.config) s) Continues (under_way (config_on previous a.config) s) no_output) (sym (h previous)) (refl, refl, refl);
      last = l;
      bytes = output_none previous a.output;
    };
  };
}

-- a phase that isn't
pub not_left_out : (test : Config → Bool) (P : Phase) (a b : Running) (e : PhaseEnd) → ((previous : Option Position) → test (config_on previous a.config) ≡ false) → DoesAlone P a e b → DoesAlone (unless test P) a e b
not_left_out test P a b e h d = record {
  each = λ s. record {
    program = (d.each s).program;
    following = λ previous l.
        let x = (d.each s).following previous l in record {
          out = x.out;
          phase = subst (λ (t : Bool). either t nothing_done P (under_way (config_on previous a.config) s) e (under_way (config_on (last_position_from previous x.out.lines) b.config) s) x.out) (sym (h previous)) x.phase;
          last = x.last;
          bytes = x.bytes;
        };
  };
}

-- ---- results

pub of_none : {A : Type 0} (P : A → Type 0) → ForSome None P
of_none P = λ x e. absurd (cc)

pub of_some : {A : Type 0} (P : A → Type 0) (x : A) → P x → ForSome (Some x) P
of_some P x h = λ y e. let same : x ≡ y = cc in subst P same h

-- what holds of how a job ended, made into another fact
pub if_stops : (A B : Type 0) (r : PhaseStop) (P Q : JobEnd → Type 0) → ((e : JobEnd) → P e → Q e) → IfStops {A = A} (Err r) P → IfStops {A = B} (Err r) Q
if_stops A B (stops.Ends e) P Q f h = f e h
if_stops A B stops.NoMemory P Q f h = tt

pub ok_map : {A B : Type 0} (r : Result A B) (P Q : A → Type 0) → ((x : A) → P x → Q x) → IfOk r P → IfOk r Q
ok_map (Ok x) P Q f h = f x h
ok_map (Err e) P Q f h = tt

pub stops_map : {A : Type 0} (r : Result A PhaseStop) (P Q : JobEnd → Type 0) → ((e : JobEnd) → P e → Q e) → IfStops r P → IfStops r Q
stops_map (Ok x) P Q f h = tt
stops_map (Err (stops.Ends e)) P Q f h = f e h
stops_map (Err stops.NoMemory) P Q f h = tt

pub memory_map : {A : Type 0} (r : Result A PhaseStop) (P Q : Type 0) → (P → Q) → UnlessNoMemory r P → UnlessNoMemory r Q
memory_map (Ok x) P Q f h = f h
memory_map (Err (stops.Ends e)) P Q f h = f h
memory_map (Err stops.NoMemory) P Q f h = tt

-- where what the machine answered is passed on
pub memory_both : {A : Type 0} (r : Result A PhaseStop) (P : Type 0) → P → UnlessNoMemory r P
memory_both (Ok x) P h = h
memory_both (Err (stops.Ends e)) P h = h
memory_both (Err stops.NoMemory) P h = tt

-- the error that a `?` passes on
pub passed_map : (A B : Type 0) (r : Result B PhaseStop) (s : PhaseStop) (P Q : JobEnd → Type 0) → ((e : JobEnd) → P e → Q e) → IsErrAnd r (λ x. x ≡ s) → IfStops {A = A} (Err s) P → IfStops r Q
passed_map A B (Ok x) s P Q f h g = tt
passed_map A B (Err x) s P Q f h g = if_stops A B x P Q f (subst (λ (y : PhaseStop). IfStops {A = A} (Err y) P) (sym h) g)

-- nothing holds for a result that isn't there
pub ok_of_err : {A E : Type 0} (r : Result A E) (Q : E → Type 0) (P : A → Type 0) → IsErrAnd r Q → IfOk r P
ok_of_err (Ok x) Q P h = absurd h
ok_of_err (Err e) Q P h = tt

memory_err : (A B : Type 0) (s : PhaseStop) (P Q : Type 0) → (P → Q) → UnlessNoMemory {A = A} (Err s) P → UnlessNoMemory {A = B} (Err s) Q
memory_err A B (stops.Ends e) P Q f h = f h
memory_err A B stops.NoMemory P Q f h = tt

pub passed_memory : (A B : Type 0) (r : Result B PhaseStop) (s : PhaseStop) (P Q : Type 0) → (P → Q) → IsErrAnd r (λ x. x ≡ s) → UnlessNoMemory {A = A} (Err s) P → UnlessNoMemory r Q
passed_memory A B (Ok x) s P Q f h g = absurd h
passed_memory A B (Err x) s P Q f h g = memory_err A B x P Q f (subst (λ (y : PhaseStop). UnlessNoMemory {A = A} (Err y) P) (sym h) g)

-- where the job ended, so much is known of the machine
memory_stops : (A B : Type 0) (s : PhaseStop) (P : JobEnd → Type 0) (Q : Type 0) → ((e : JobEnd) → P e → Q) → IfStops {A = A} (Err s) P → UnlessNoMemory {A = B} (Err s) Q
memory_stops A B (stops.Ends e) P Q f h = f e h
memory_stops A B stops.NoMemory P Q f h = tt

pub passed_stops : (A B : Type 0) (r : Result B PhaseStop) (s : PhaseStop) (P : JobEnd → Type 0) (Q : Type 0) → ((e : JobEnd) → P e → Q) → IsErrAnd r (λ x. x ≡ s) → IfStops {A = A} (Err s) P → UnlessNoMemory r Q
passed_stops A B (Ok x) s P Q f h g = absurd h
passed_stops A B (Err x) s P Q f h g = memory_stops A B x P Q f (subst (λ (y : PhaseStop). IfStops {A = A} (Err y) P) (sym h) g)

-- what is known of the machine is known where the job ended
stops_with : (A B : Type 0) (s : PhaseStop) (M : Type 0) (P Q : JobEnd → Type 0) → ((e : JobEnd) → M → P e → Q e) → UnlessNoMemory {A = A} (Err s) M → IfStops {A = A} (Err s) P → IfStops {A = B} (Err s) Q
stops_with A B (stops.Ends e) M P Q f m h = f e m h
stops_with A B stops.NoMemory M P Q f m h = tt

pub passed_with : (A B : Type 0) (r : Result B PhaseStop) (s : PhaseStop) (M : Type 0) (P Q : JobEnd → Type 0) → ((e : JobEnd) → M → P e → Q e) → IsErrAnd r (λ x. x ≡ s) → UnlessNoMemory {A = A} (Err s) M →
    IfStops {A = A} (Err s) P → IfStops r Q
passed_with A B (Ok x) s M P Q f h m g = absurd h
passed_with A B (Err x) s M P Q f h m g =
    stops_with A B x M P Q f (subst (λ (y : PhaseStop). UnlessNoMemory {A = A} (Err y) M) (sym h) m) (subst (λ (y : PhaseStop). IfStops {A = A} (Err y) P) (sym h) g)
