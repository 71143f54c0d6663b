-- Phases that are the machine's.
use Rattle.std.proofs.Common.{◌≡◌, ℕ, List, Option, None, Some, refl, sym, subst}
use Rattle.rpg_program.specs.Ends as effects
use Rattle.rpg_cycle.specs.Doing.{Does, Beside, DoesAlone, holding}
use Rattle.rpg_cycle_records.specs.Waiting.{Inputs}
use Rattle.rpg_cycle.specs.Ends.{Continues, PhaseEnd, phase_end}
use Rattle.rpg_cycle.specs.Phases.{by_machine, fill_fields, output, section}
use Rattle.rpg_machine.specs.Outputs.{FillsFields, Outputs}
use Rattle.rpg_machine.specs.Run.{RunsTo}
use Rattle.rpg_machine.specs.Running.{Behaviour, Did, Running}
use Rattle.rpg_machine.specs.declared.time.OutputTime.{OutputTime}
use Rattle.rpg_program.specs.Object.{Object}
use Rattle.rpg_program.specs.declared.section.Section.{Section}

-- what the machine did is a phase
machine_does : (P : Behaviour) (a b : Running) (last : effects.End) (s : Beside) → Did P a last b → Does (by_machine P) a s (phase_end last) b s
machine_does P a b last s d = record {
  program = d.program;
  following = λ previous l.
      let x = d.following previous l in
      record { out = x.out; phase = (last, x.act, refl, refl, refl); last = x.last; bytes = x.bytes };
}

ended_so : (P : Behaviour) (a b : Running) (last : effects.End) (e : PhaseEnd) (s : Beside) → phase_end last ≡ e → Did P a last b → Does (by_machine P) a s e b s
ended_so P a b last e s is d = subst (λ (x : PhaseEnd). Does (by_machine P) a s x b s) is (machine_does P a b last s d)

pub output_lines : (time : OutputTime) (a b : Running) (last : effects.End) (e : PhaseEnd) → phase_end last ≡ e → Did (Outputs a.program time) a last b → DoesAlone (output a.program time) a e b
output_lines time a b last e is d = record { each = λ s. ended_so (Outputs a.program time) a b last e s is d }

pub calculated : (s : Section) (a b : Running) (last : effects.End) (e : PhaseEnd) → phase_end last ≡ e → Did (RunsTo a.program s) a last b → DoesAlone (section a.program s) a e b
calculated s a b last e is d = record { each = λ x. ended_so (RunsTo a.program s) a b last e x is d }

-- fields were filled from a record
filled_fields : (p : Object) (i : Inputs) (t : ℕ) (text : List ℕ) (a b : Running) (e : PhaseEnd) → (let s : Beside = holding i (Some t) text in
    Does (by_machine (FillsFields p t text)) a s e b s → Does (fill_fields p) a s e b s)
filled_fields p i t text a b e h = record {
  program = h.program;
  following = λ previous l. let x = h.following previous l in record { out = x.out; phase = x.phase; last = x.last; bytes = x.bytes };
}

pub filled : (i : Inputs) (o : Option ℕ) (t : ℕ) (text : List ℕ) (a b : Running) (last : effects.End) (e : PhaseEnd) → o ≡ Some t → phase_end last ≡ e → Did (FillsFields a.program t text) a last b →
    Does (fill_fields a.program) a (holding i o text) e b (holding i o text)
filled i o t text a b last e there is d =
    let s : Beside = holding i (Some t) text in
    subst (λ (x : Option ℕ). Does (fill_fields a.program) a (holding i x text) e b (holding i x text)) (sym there)
    (filled_fields a.program i t text a b e (ended_so (FillsFields a.program t text) a b last e s is d))

-- no record was selected
pub nothing_filled : (p : Object) (i : Inputs) (o : Option ℕ) (text : List ℕ) (a : Running) → o ≡ None → Does (fill_fields p) a (holding i o text) Continues a (holding i o text)
nothing_filled p i o text a none =
    subst (λ (x : Option ℕ). Does (fill_fields p) a (holding i x text) Continues a (holding i x text)) (sym none) (record {
      program = refl;
      following = λ previous l. record { out = Rattle.rpg_machine.specs.Config.no_output; phase = (refl, refl, refl); last = l; bytes = Rattle.rpg_cycle.proofs.Composing.output_none previous a.output };
    })
