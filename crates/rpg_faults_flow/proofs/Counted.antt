-- F6: there are as many subroutines as BEGSRs among SR cards.
use Rattle.std.proofs.Common.{◌≡◌, suc, cond, ◌&&◌, List, [], ◌∷◌, ◌++◌, length, Option, refl, sym, ap, ◌∙◌, ◌⊎◌, inl, inr}
use Rattle.rpg_cards.specs.Statements.{Begins, Calculation}
use Rattle.rpg_cards.specs.Keys.{Key, Name}
use Rattle.rpg_cards.specs.Labels.{begins_subroutine, begun_count, is_begsr}
use Rattle.rpg_cards.specs.declared.spec_card.SpecCard.{SpecCard}
use Rattle.rpg_faults_flow.proofs.Facts.{Facts}
use Rattle.rpg_faults_flow.proofs.Placed.{IsOther, begin_control, not_begins, subs, subs_begin, subs_other, view}
use Rattle.rpg_faults_flow.proofs.Walk.{EachSplit}

pub subs_count : (cards : List SpecCard) (front gs : List (Calculation Key)) → EachSplit (Facts cards) front gs → length (subs gs) ≡ begun_count gs
subs_count cards front [] h = refl
subs_count cards front (g ∷ gs) h = by_view (subs_count cards (front ++ g ∷ []) gs h.1) (view g.statement)
  where
    by_view : length (subs gs) ≡ begun_count gs → ((n : Option Name) × (g.statement ≡ Begins n)) ⊎ IsOther g.statement → length (subs (g ∷ gs)) ≡ cond (begins_subroutine g) (suc (begun_count gs)) (begun_count gs)
    by_view rec (inl (n, d)) =
        let s = begin_control front g gs n d h.0.paired in
        ap length (subs_begin g gs n d s) ∙ ap suc rec ∙ sym (ap (λ b. cond b (suc (begun_count gs)) (begun_count gs)) (ap (λ b. b && is_begsr g.statement) s ∙ ap is_begsr d))
    by_view rec (inr o) = ap length (subs_other g gs o.begun) ∙ rec ∙ sym (ap (λ b. cond b (suc (begun_count gs)) (begun_count gs)) (not_begins g o.begsr))
