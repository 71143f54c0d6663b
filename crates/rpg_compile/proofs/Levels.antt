-- The levels that the calls between subroutines give are those of the longest chains, where no call leads back.
use Rattle.std.proofs.Common.{◌≡◌, ℕ, ◌-◌, ◌<◌, arith}
use Rattle.rpg_compile_program.proofs.Heights.{CallersBelow, chain_short}
use Rattle.rpg_symbols.proofs.Chains.{call_here, is_level}
use Rattle.rpg_symbols.specs.Chains.{Calls, IsCallLevel, NoCallLeadsBack, level_within}
use Rattle.rpg_symbols.specs.Levels as symbols
use Rattle.rpg_symbols.specs.Levels.{call_numbered}

module _ (ps : Calls) (n : ℕ) (none : NoCallLeadsBack ps) (callers : CallersBelow n ps) where
  -- the definition gives the level of the longest chain
  pub longest_is : (s : ℕ) → s < n → IsCallLevel ps s (level_within (n - 1) ps s)
  longest_is s low = is_level ps (n - 1) s (λ chain h. let short = chain_short ps n none callers s chain low h in omega arith)

  -- there is only one
  pub level_is : (s level : ℕ) → s < n → IsCallLevel ps s level → level ≡ level_within (n - 1) ps s
  level_is s level low h =
      let own = longest_is s low in
      let count = h.chain.count in
      let at_least = own.longest h.chain.callers h.chain.chain in
      let own_count = own.chain.count in
      let at_most = h.longest own.chain.callers own.chain.chain in
      omega (arith, at_least, at_most)

  -- ---- no cycle

  pub not_cyclic : (k : ℕ) → symbols.IsCyclic ps k → ⊥
  not_cyclic k h = none (call_numbered ps k).0 (call_numbered ps k).1 (call_here ps k h.within) h.back
