-- What holds of a machine between two calls, and of its parts while it works.
use Rattle.std.proofs.Common.{◌≡◌, ◌≤◌, ◌<◌, ◌^◌, sym, subst}
use Rattle.std.specs.FinMap as map
use Rattle.rpg_machine.specs.Ready.{IsReady}
use Rattle.rpg_machine.specs.Running.{Running}
use Rattle.rpg_machine.specs.State.{IsAble, running_of}
use Rattle.rpg_machine.specs.declared.state.State.{State}
use Rattle.rpg_program.specs.Object.{Object}

module _ {S : Type 0} where
  pub able_of : (p : Object) (s : State S) (r : Running) → running_of p s ≡ r → IsReady r → s.memory.program ≡ p → IsAble p s.memory
  able_of p s r is ready own = record { own = own; near = subst (λ (x : Running). x.config.world.paper.here.page ≤ 2) (sym is) ready.few_pages }

  pub ready_of : (p : Object) (s : State S) → IsAble p s.memory →
      s.cells ≡ map.empty → s.allowance < 2 ^ 16 → IsReady (running_of p s)
  ready_of p s able none few = record {
    no_cell = none;
    few_spends = few;
    few_pages = able.near;
  }
