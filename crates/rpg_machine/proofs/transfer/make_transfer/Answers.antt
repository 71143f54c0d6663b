use Rattle.std.proofs.Common.{◌≡◌, ◌<◌, ℕ, ◌+◌, ◌&&◌, eqb, eq-eqb, true, false, is_none, sym, ap, ◌∙◌, subst, arith}
use Rattle.rpg_program.specs.Ends.{Continues}
use Rattle.rpg_machine_lines.specs.Outputs.{output_of}
use Rattle.rpg_machine.proofs.Making.{did_go, did_spend, no_halt}
use Rattle.rpg_machine.proofs.Transfers.{transfer_done, transfer_leads, transfer_weight}
use Rattle.rpg_machine.specs.Accepted.{IsSmall}
use Rattle.rpg_machine.specs.Acts.{Makes}
use Rattle.rpg_machine.specs.Control.{spends}
use Rattle.rpg_machine.specs.Running.{Did, Running}
use Rattle.rpg_machine.specs.State.{IsAble, config_of, running_of}
use Rattle.rpg_machine.specs.Step.{destination, lacks_subroutine}
use Rattle.rpg_machine.specs.declared.control.Control.{Control}
use Rattle.rpg_memory.specs.Memory.{Working, held_of}
use Rattle.rpg_machine.proofs.transfer.make_transfer.Goals as goal
use Rattle.rpg_machine.proofs.transfer.make_transfer.Goals.{else-spends-via-then-spends+else-state-eq0, else-spends-via-else-spends}

pub returns-then-state-eq0-clause-made : goal.returns-then-state-eq0-clause-made
returns-then-state-eq0-clause-made g c =
    let p = c.args.program.now in
    let s = c.args.state.now in
    let n = c.requires.next in
    did_spend (running_of p s) n.0 c.args.control (s.steps + 1) n.1.at (transfer_leads n.0 c.args.control s.memory.world.data.on s.place n.2)
    (ap (λ (k : ℕ). s.steps + k) (sym (transfer_weight p n.0 c.args.control n.2))) n.1.fine (sym c.spends.ensures ∙ c.if-spends.true) (eq-eqb s.allowance 0 c.if-state-eq0.true)

pub destination-to-requires : goal.destination-to-requires
destination-to-requires g c =
    let p = c.args.program.now in
    let s = c.args.state.now in
    let n = c.requires.next in
    let leads = transfer_leads n.0 c.args.control s.memory.world.data.on s.place n.2 in
    record {
      there = ap (lacks_subroutine p) leads ∙ n.1.fine.there;
      leads = ap (λ (k : Control). is_none (destination p (config_of s) k)) leads ∙ n.1.fine.leads;
      small = subst (λ (k : Control). IsSmall k) (sym leads) n.1.small;
    }

pub arrive-requires-clause-small : goal.arrive-requires-clause-small
arrive-requires-clause-small g c =
    let s = c.args.state.now in
    let n = c.requires.next in
    subst (λ (k : Control). IsSmall k) (sym (transfer_leads n.0 c.args.control s.memory.world.data.on s.place n.2)) n.1.small

pub returns-clause-made : goal.returns-clause-made
returns-clause-made g c =
    let p = c.args.program.now in
    let s = c.args.state.now in
    let n = c.requires.next in
    let bytes = output_of s.writer.output in
    let left : c.spends.result ≡ true → 0 < s.allowance =
    elim c.else-spends.branch [ else-spends-via-then-spends+else-state-eq0 w ↦ λ _. omega arith | else-spends-via-else-spends w ↦ λ h. cc ] in
    let paid : (spends c.args.control && eqb s.allowance 0) ≡ false =
    ap (λ b. b && eqb s.allowance 0) (sym c.spends.ensures) ∙ no_halt c.spends.result s.allowance left in
    let made = did_go (running_of p s) n.0 c.args.control (s.steps + 1) n.1.at (transfer_leads n.0 c.args.control s.memory.world.data.on s.place n.2)
    (ap (λ (k : ℕ). s.steps + k) (sym (transfer_weight p n.0 c.args.control n.2))) n.1.fine (held_of s.memory) bytes c.destination-to.result paid c.destination-to.ensures
    (transfer_done p n.0 c.args.control (held_of s.memory) bytes n.2) in
    subst (λ (r : Running). Did (Makes p) (running_of p s) Continues r)
    (λ j. record {
      program = p;
      config = sym c.arrive.ensures.arrived j;
      last = (sym c.arrive.ensures.moves.memory j).last;
      output = output_of (sym c.arrive.ensures.moves.writer j).output;
    }) made

pub returns-clause-able : goal.returns-clause-able
returns-clause-able g c = subst (λ (m : Working). IsAble c.args.program.now m) (sym c.arrive.ensures.moves.memory) c.requires.can.able
