-- Lists with an item for each of the nine levels.
use Rattle.std.proofs.Common.{◌≡◌, ◌≢◌, ℕ, ◌+◌, ◌-◌, ◌≤◌, ◌<◌, ◌⊎◌, inl, inr, Bool, true, false, ◌||◌, List, [], ◌∷◌, map, length, get_or, eqb, suc, refl, sym, ap, ◌∙◌, arith}
use Rattle.std.proofs.Math.ListN.{set}
use Rattle.std.proofs.lemmas.Bool.Decides.{eqb_tells}
use Rattle.std.proofs.lemmas.Grind.{get_or-set_at}
use Rattle.std.proofs.lemmas.List.{get_or-set_other, length-set}
use Rattle.std.proofs.lemmas.List.FromFn.{fill_by_all, get_or-map-range_with_len, length-map-range_with_len}
use Rattle.std.specs.List.{list_any, range_with_len}
use Rattle.rpg_faults_places.specs.Places.{levels}

pub levels-is : levels ≡ range_with_len 1 9
unfolding levels
levels-is = refl

-- the item of a level stands at the place before its number
pub item_at : {X : Type 0} (F : ℕ → X) (level : ℕ) (d : X) → 1 ≤ level → level ≤ 9 → get_or (map F levels) (level - 1) d ≡ F level
item_at F level d low high = ap (λ ls. get_or (map F ls) (level - 1) d) levels-is ∙ get_or-map-range_with_len F 1 9 (level - 1) level d (omega arith) (omega arith)

pub map_at_levels : {X Y : Type 0} (F : ℕ → X) (H : X → ℕ → Y) (d : X) → map (λ level. H (get_or (map F levels) (level - 1) d) level) levels ≡ map (λ level. H (F level) level) levels
unfolding levels
map_at_levels F H d = refl

pub any_at_levels : {X : Type 0} (F : ℕ → X) (H : X → ℕ → Bool) (d : X) → list_any (λ level. H (get_or (map F levels) (level - 1) d) level) levels ≡ list_any (λ level. H (F level) level) levels
unfolding levels
any_at_levels F H d = refl

pub same_at_levels : {X : Type 0} (F G : ℕ → X) → ((level : ℕ) → F level ≡ G level) → map F levels ≡ map G levels
same_at_levels {X} F G same = over levels
  where
    over : (ls : List ℕ) → map F ls ≡ map G ls
    over [] = refl
    over (l ∷ ls) = ap (λ x. x ∷ map F ls) (same l) ∙ ap (λ xs. G l ∷ xs) (over ls)

pub filled : {X : Type 0} (F : ℕ → X) (xs : List X) (d : X) → length xs ≡ 9 → ((k : ℕ) → k < 9 → get_or xs k d ≡ F (k + 1)) → xs ≡ map F levels
unfolding levels
filled F xs d nine each = fill_by_all (λ k. F (k + 1)) xs 9 d nine each

pub any_from : (test : ℕ → Bool) (level : ℕ) → level < 10 → list_any test (range_with_len level (10 - level)) ≡ (test level || list_any test (range_with_len (level + 1) (10 - (level + 1))))
any_from test level less =
    let one_more : 10 - level ≡ suc (10 - (level + 1)) = omega arith in
    ap (λ k. list_any test (range_with_len level k)) one_more

pub not_at : (test : ℕ → Bool) (level : ℕ) (here all : Bool) → level < 10 → all ≡ list_any test (range_with_len level (10 - level)) → here ≡ test level → here ≡ false
    → all ≡ list_any test (range_with_len (level + 1) (10 - (level + 1)))
not_at test level here all less so_far is passed =
    so_far ∙ any_from test level less ∙ ap (λ b. b || list_any test (range_with_len (level + 1) (10 - (level + 1)))) (sym is ∙ passed)

-- the items are replaced one by one
pub set_next : {X : Type 0} (xs : List X) (made : ℕ → X) (level : ℕ) (x d : X) → length xs ≡ 9 → 1 ≤ level → level < 10 → x ≡ made (level - 1) → ((k : ℕ) → k + 1 < level → get_or xs k d ≡ made k)
    → (k : ℕ) → k + 1 < level + 1 → get_or (set xs (level - 1) x) k d ≡ made k
set_next xs made level x d nine low high is done k less = by (eqb_tells k (level - 1))
  where
    by : ((eqb k (level - 1) ≡ true) × (k ≡ level - 1)) ⊎ ((eqb k (level - 1) ≡ false) × (k ≢ level - 1)) → get_or (set xs (level - 1) x) k d ≡ made k
    by (inl (e, here)) = get_or-set_at xs (level - 1) k x d here (omega (arith, nine)) ∙ is ∙ ap made (sym here)
    by (inr (e, other)) = get_or-set_other xs (level - 1) k x d other ∙ done k (omega arith)

-- the item of one level is replaced
pub set_level : {X : Type 0} (F G : ℕ → X) (d : X) (n : ℕ) (v : X) → 1 ≤ n → n ≤ 9 → v ≡ G n → ((level : ℕ) → level ≢ n → G level ≡ F level) → set (map F levels) (n - 1) v ≡ map G levels
set_level F G d n v low high new old = filled G (set (map F levels) (n - 1) v) d (length-set (map F levels) (n - 1) v ∙ nine) each
  where
    nine : length (map F levels) ≡ 9
    nine = ap (λ ls. length (map F ls)) levels-is ∙ length-map-range_with_len F 1 9

    each : (k : ℕ) → k < 9 → get_or (set (map F levels) (n - 1) v) k d ≡ G (k + 1)
    each k less = by (eqb_tells k (n - 1))
      where
        item : get_or (map F levels) k d ≡ F (k + 1)
        item = ap (λ ls. get_or (map F ls) k d) levels-is ∙ get_or-map-range_with_len F 1 9 k (k + 1) d less (omega arith)

        by : ((eqb k (n - 1) ≡ true) × (k ≡ n - 1)) ⊎ ((eqb k (n - 1) ≡ false) × (k ≢ n - 1)) → get_or (set (map F levels) (n - 1) v) k d ≡ G (k + 1)
        by (inl (e, here)) =
            let same : n ≡ k + 1 = omega arith in
            get_or-set_at (map F levels) (n - 1) k v d here (omega (arith, nine)) ∙ new ∙ ap G same
        by (inr (e, other)) =
            let apart : k + 1 ≢ n = omega arith in
            get_or-set_other (map F levels) (n - 1) k v d other ∙ item ∙ sym (old (k + 1) apart)
