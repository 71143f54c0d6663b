-- What holds of a machine between two calls.
use Rattle.std.specs.Prelude.{◌≡◌, ◌≤◌, ◌<◌, ◌^◌}
use Rattle.std.specs.FinMap as map
use Rattle.rpg_machine.specs.Running.{Running}

-- no subroutine runs, the allowance is a number of the object format, and few pages were begun since the line placed last
pub record IsReady (r : Running) : Type 0 where
  pub no_cell : r.config.cells ≡ map.empty
  pub few_spends : r.config.allowance < 2 ^ 16
  pub few_pages : r.config.world.paper.here.page ≤ 2
