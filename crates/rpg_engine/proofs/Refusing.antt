-- A job that never began.
use Rattle.std.proofs.Common.{◌≡◌, ℕ, ℤ, false, List, [], Option, None, Some, Result, Ok, Err, IfErr, IfOk, refl, sym, ap, ◌∙◌, subst, arith, inl}
use Rattle.std.specs.Io.KnownBytes.{Appends}
use Rattle.std.proofs.KnownBytes.{Appends-nil, Consumes-nil}
use Rattle.rpg_program.specs.Put.{Bytes}
use Rattle.rpg_program.specs.declared.input.InputFile.{InputFile}
use Rattle.rpg_files.specs.Sending.{AppendsPrefix}
use Rattle.rpg_files.specs.declared.reader.ReadFault.{ReadFault}
use Rattle.rpg_machine.specs.Config.{no_output}
use Rattle.rpg_machine.specs.Running.{no_bytes}
use Rattle.rpg_program.specs.Object.{Object}
use Rattle.rpg_engine.specs.Inputs.{Front, OfFronts, OfInputs, WasRead}
use Rattle.rpg_engine.specs.Outputs.{Contents, bytes_for}
use Rattle.rpg_engine.proofs.Outputs.{none_for}
use Rattle.rpg_cycle.specs.Starting.{date_in}
use Rattle.rpg_cycle.specs.Job.{AtWork, Starts, first_fields, job_started}
use Rattle.rpg_verify_rules.specs.Accepted.{IsAccepted}
use Rattle.rpg_engine.specs.Objects.{HasObjectFault, IsRefused, SpellsProgram}
use Rattle.rpg_engine.specs.Refusing.{HasDay, IsReportOf, IsReportOfDate, MayRun, start_fault}
use Rattle.rpg_engine.specs.Streaming.{IsRunFault, StopsEarly}
use Rattle.rpg_engine.specs.Reporting.{HasParts, HasSent, IsOutputBy, MayBeOutput, Reports}
use Rattle.rpg_engine.specs.Running.{IsObjectRun, IsProgramRun, RunsOnDay}
use Rattle.rpg_cycle.specs.declared.ends.StartFault.{StartFault}
use Rattle.rpg_cycle.specs.declared.ends.StartFault.TheVariants as starting
use Rattle.rpg_engine.specs.declared.object.ObjectFault.{ObjectFault}
use Rattle.rpg_engine.specs.declared.object.ObjectFault.TheVariants as objects
use Rattle.rpg_engine.specs.declared.files.Readers.{Readers}
use Rattle.rpg_engine.specs.declared.files.Writers.{Writers}
use Rattle.rpg_engine.specs.declared.report.Report.{Report}
use Rattle.rpg_engine.specs.declared.fault.RunFault.{RunFault}
use Rattle.rpg_engine.specs.declared.fault.RunFault.TheVariants as faults

none_sent : (a : Option (List ℕ)) (bytes : List ℕ) → AppendsPrefix a a bytes
none_sent a bytes = (0, (omega arith, Appends-nil a))

none_read : (a : Option (List ℕ)) → WasRead a a
none_read a = record { read = []; ended = false; consumed = Consumes-nil a; at_end = λ is. absurd cc }

-- before the first cycle nothing was output
at_once : (a b : Option (List ℕ)) (held : Contents) (e : RunFault) (p : Object) (day : ℤ) → ((file : InputFile) (why : ReadFault) → e ≡ faults.Read file why → ⊥)
    → ((bytes : Bytes) → HasParts e held held bytes) → ((primary secondary : List ℕ) → IsOutputBy 0 p day primary secondary no_bytes → MayBeOutput e p day primary secondary no_bytes)
    → HasSent e held held no_bytes → OfFronts a a b b (StopsEarly p day e held held)
at_once a b held e p day other parts may sent = record {
  primary = none_read a;
  secondary = none_read b;
  fact = record {
    stops = λ more others_more can can_too. record {
      parts = λ course bytes run. parts bytes;
      bytes = no_bytes;
      write_line_out = may _ _ (no_output, (refl, tt), refl);
      sent = sent;
    };
    needs = λ file why is. absurd (other file why is);
  };
}

pub object_refused : (a b : Option (List ℕ)) (held : Contents) (fault : ObjectFault) (object : List ℕ) (p : Object) (day : ℤ) → HasObjectFault fault object
    → OfFronts a a b b (StopsEarly p day (faults.Object fault) held held)
object_refused a b held fault object p day is =
    at_once a b held (faults.Object fault) p day (λ file why is. absurd cc) (λ bytes file. none_sent (held file) (bytes_for file bytes)) (λ xs ys put. inl (0, put)) tt

pub no_room : (a b : Option (List ℕ)) (held : Contents) (p : Object) (day : ℤ) → OfFronts a a b b (StopsEarly p day (faults.NoMemory 0) held held)
no_room a b held p day =
    at_once a b held (faults.NoMemory 0) p day (λ file why is. absurd cc) (λ bytes file. none_sent (held file) (bytes_for file bytes)) (λ xs ys put. put)
    (λ file. subst (λ (x : List ℕ). Appends (held file) (held file) x) (sym (none_for file)) (Appends-nil (held file)))

pub not_started : (a b : Option (List ℕ)) (held : Contents) (fault : StartFault) (p : Object) (day : ℤ) → OfFronts a a b b (StopsEarly p day (start_fault fault) held held)
not_started a b held starting.BadDate p day =
    at_once a b held faults.BadDate p day (λ file why is. absurd cc) (λ bytes file. none_sent (held file) (bytes_for file bytes)) (λ xs ys put. inl (0, put)) tt
not_started a b held starting.NoMemory p day = no_room a b held p day

-- what is reported of one
pub start_reported : (fault : StartFault) (date : List ℕ) → (fault ≡ starting.BadDate → date_in date ≡ None) → IsReportOfDate {X = Report} (Err (start_fault fault)) date
start_reported starting.BadDate date none = none refl
start_reported starting.NoMemory date none = tt

-- ---- a job that began

-- a run is that of the date that it was given
pub same_job : (date : List ℕ) (p : Object) (day : ℤ) (job : AtWork) (F : Object → ℤ → Type 0) → ((x : ℤ) → job ≡ job_started job.program x (first_fields job.program) → F job.program x)
    → Starts p date (first_fields p) job → date_in date ≡ Some day → F p day
same_job date p day job F holds starts dated =
    let program : job.program ≡ p = ap (λ (j : AtWork). j.program) starts.job in
    let begun : job ≡ job_started job.program starts.number (first_fields job.program) = subst (λ (x : Object). job ≡ job_started x starts.number (first_fields x)) (sym program) starts.job in
    let number : starts.number ≡ day = let a = starts.spelled in cc in
    subst (λ (x : ℤ). F p x) number (subst (λ (x : Object). F x starts.number) program (holds starts.number begun))

-- what holds for inputs, whatever they are called
inputs_same : (a a' b b' c c' d d' : Option (List ℕ)) (Fact : List ℕ → List ℕ → Type 0) → a ≡ a' → b ≡ b' → c ≡ c' → d ≡ d' → OfInputs a b c d Fact → OfInputs a' b' c' d' Fact
inputs_same a a' b b' c c' d d' Fact e f g h holds =
    subst (λ (x : Option (List ℕ)). OfInputs x b' c' d' Fact) e
    (subst (λ (x : Option (List ℕ)). OfInputs a x c' d' Fact) f
    (subst (λ (x : Option (List ℕ)). OfInputs a b x d' Fact) g
    (subst (λ (x : Option (List ℕ)). OfInputs a b c x Fact) h holds)))

pub reports_same : (date : List ℕ) (p : Object) (day : ℤ) (job : AtWork) (a a' b b' c c' d d' : Option (List ℕ)) (before after : Contents) (report : Report) → a ≡ a' → b ≡ b' → c ≡ c' → d ≡ d'
    → ((x : ℤ) → job ≡ job_started job.program x (first_fields job.program) → OfInputs a b c d (Reports job.program x report before after))
    → Starts p date (first_fields p) job → date_in date ≡ Some day → OfInputs a' b' c' d' (Reports p day report before after)
reports_same date p day job a a' b b' c c' d d' before after report e f g h holds starts dated =
    inputs_same a a' b b' c c' d d' (Reports p day report before after) e f g h
    (same_job date p day job (λ r x. OfInputs a b c d (Reports r x report before after)) holds starts dated)

fronts_same : (a a' b b' c c' d d' : Option (List ℕ)) (Fact : Front → Front → Type 0) → a ≡ a' → b ≡ b' → c ≡ c' → d ≡ d' → OfFronts a b c d Fact → OfFronts a' b' c' d' Fact
fronts_same a a' b b' c c' d d' Fact e f g h holds =
    subst (λ (x : Option (List ℕ)). OfFronts x b' c' d' Fact) e
    (subst (λ (x : Option (List ℕ)). OfFronts a x c' d' Fact) f
    (subst (λ (x : Option (List ℕ)). OfFronts a b x d' Fact) g
    (subst (λ (x : Option (List ℕ)). OfFronts a b c x Fact) h holds)))

pub parts_same : (date : List ℕ) (p : Object) (day : ℤ) (job : AtWork) (a a' b b' c c' d d' : Option (List ℕ)) (before after : Contents) (fault : RunFault) → a ≡ a' → b ≡ b' → c ≡ c' → d ≡ d'
    → ((x : ℤ) → job ≡ job_started job.program x (first_fields job.program) → OfFronts a b c d (StopsEarly job.program x fault before after))
    → Starts p date (first_fields p) job → date_in date ≡ Some day → OfFronts a' b' c' d' (StopsEarly p day fault before after)
parts_same date p day job a a' b b' c c' d d' before after fault e f g h holds starts dated =
    fronts_same a a' b b' c c' d d' (StopsEarly p day fault before after) e f g h
    (same_job date p day job (λ r x. OfFronts a b c d (StopsEarly r x fault before after)) holds starts dated)

pub reported_of_run : {X : Type 0} (result : Result X RunFault) (date : List ℕ) → HasDay date → IfErr result IsRunFault → IsReportOfDate result date
reported_of_run (Ok x) date has only = has
reported_of_run (Err (faults.Object fault)) date has only = absurd only
reported_of_run (Err faults.BadDate) date has only = absurd only
reported_of_run (Err (faults.Read file fault)) date has only = has
reported_of_run (Err (faults.Write file sent)) date has only = has
reported_of_run (Err (faults.NoMemory cycles)) date has only = tt

pub on_err : {X E : Type 0} (r : Result X E) (P Q : E → Type 0) → ((e : E) → P e → Q e) → IfErr r P → IfErr r Q
on_err (Ok x) P Q f h = tt
on_err (Err e) P Q f h = f e h

pub on_ok : {X E : Type 0} (r : Result X E) (P Q : X → Type 0) → ((x : X) → P x → Q x) → IfOk r P → IfOk r Q
on_ok (Ok x) P Q f h = f x h
on_ok (Err e) P Q f h = tt

-- ---- from the accepted program to the bytes that spell it

may_run : (object date : List ℕ) (p : Object) → SpellsProgram object p → IsAccepted p → HasDay date → MayRun object date
may_run object date p spells accepted has = (p, has.0, record { spells = spells; accepted = accepted; dated = has.1 })

pub reported_of_program : {X : Type 0} (result : Result X RunFault) (object date : List ℕ) (p : Object) → SpellsProgram object p → IsAccepted p → IsReportOfDate result date → IsReportOf result object date
reported_of_program (Ok x) object date p spells accepted has = may_run object date p spells accepted has
reported_of_program (Err (faults.Object fault)) object date p spells accepted reported = absurd reported
reported_of_program (Err faults.BadDate) object date p spells accepted none = (p, spells, accepted, none)
reported_of_program (Err (faults.Read file fault)) object date p spells accepted has = may_run object date p spells accepted has
reported_of_program (Err (faults.Write file sent)) object date p spells accepted has = may_run object date p spells accepted has
reported_of_program (Err (faults.NoMemory cycles)) object date p spells accepted reported = tt

-- where there is no job of the bytes and the date, the date is none
undated : (date : List ℕ) (day : Option ℤ) → date_in date ≡ day → ¬ HasDay date → date_in date ≡ None
undated date None is none = is
undated date (Some day) is none = absurd (none (day, is))

pub no_day : (object date : List ℕ) (p : Object) → SpellsProgram object p → IsAccepted p → (MayRun object date → ⊥) → date_in date ≡ None
no_day object date p spells accepted none = undated date (date_in date) refl (λ has. none (may_run object date p spells accepted has))

-- what holds for the accepted program holds for any that the bytes spell
pub object_run : {R S P D : Type 0} (remaining : R → Option (List ℕ)) (others : S → Option (List ℕ)) (contents : P → Option (List ℕ)) (stored : D → Option (List ℕ))
    (object date : List ℕ) (q : Object) (old new : Readers R S) (before after : Writers P D) (result : Result Report RunFault)
    → SpellsProgram object q → IsAccepted q → ((r : Object) → SpellsProgram object r → q ≡ r)
    → IsProgramRun remaining others contents stored q date old new before after result → IsObjectRun remaining others contents stored object date old new before after result
object_run remaining others contents stored object date q old new before after result spells accepted only ran = record {
  refused = reported_of_program result object date q spells accepted ran.refused;
  untouched = λ none. ran.untouched (no_day object date q spells accepted none);
  alone = λ p spelled none. ran.alone (ap (λ (r : Object). r.secondary_length) (only p spelled) ∙ none);
  run = λ p day job. subst (λ (r : Object). RunsOnDay remaining others contents stored r day old new before after result) (only p job.spells) (ran.run day job.dated);
}

-- ---- an object whose program is refused

pub refused_bytes : (fault : ObjectFault) (bytes : List ℕ) (p : Object) → SpellsProgram bytes p → IsRefused fault p → HasObjectFault fault bytes
refused_bytes (objects.NotAnObject offset code) bytes p spells is = absurd is
refused_bytes (objects.Refused broken) bytes p spells is = (p, spells, is)
refused_bytes objects.NoMemory bytes p spells is = tt
