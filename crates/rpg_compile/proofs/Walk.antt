-- Groups of C cards, one after the other.
use Rattle.std.proofs.Common.{◌≡◌, ℕ, suc, ◌+◌, ◌<◌, Bool, true, false, cond, List, [], ◌∷◌, ◌++◌, length, take, drop, get_or, Option, None, Some, unwrap_or, refl, sym, ap, ◌∙◌, append-nil, append_assoc, add-one, drop-cons}
use Rattle.std.proofs.lemmas.List.{take_more}
use Rattle.std.proofs.lemmas.List.Elements.{filter_map-append}
use Rattle.std.specs.List.{cons_option, last_or}
use Rattle.std.specs.Option.{option_map, option_map_or, option_to_list}
use Rattle.rpg_cards.specs.Calculations.{CalculationGroup, alone, calculation_of, calculations, calculations_from, completed, continues, group_at, group_with, joined_group, open_with}
use Rattle.rpg_cards.specs.Statements.{Calculation}
use Rattle.rpg_cards.specs.Keys.{Key}
use Rattle.rpg_cards.specs.Cards.{calculation_on, calculation_specs_in}
use Rattle.rpg_cards.specs.Groups.{joins}
use Rattle.rpg_cards.specs.declared.spec_card.SpecCard.{SpecCard}
use Rattle.rpg_compile.specs.Walk.{first_calculation, group_of, joining}
use Rattle.rpg_sheet_specs.specs.declared.calculation.CalculationSpec.{CalculationSpec}

-- ---- one card

-- the calculations after a card that leaves a group open
abbrev pub after_group : CalculationGroup → List SpecCard → List (Calculation Key)
after_group g cs = option_to_list (option_map calculation_of (cond (continues cs) None (Some g))) ++ calculations_from (Some g) cs []

pub opened : (o : Option CalculationGroup) (c : SpecCard) (cs : List SpecCard) (g : CalculationGroup) → open_with o c.spec ≡ Some g → calculations_from o (c ∷ cs) [] ≡ after_group g cs
opened o c cs g is =
    ap (λ after. option_to_list (option_map calculation_of (group_at o c after)) ++ calculations_from (open_with o c.spec) cs []) (append-nil cs)
    ∙ ap (λ p. option_to_list (option_map calculation_of (cond (continues cs) None p)) ++ calculations_from p cs []) is

no_group : (b : Bool) → option_to_list (option_map calculation_of (cond b None None)) ≡ []
no_group true = refl
no_group false = refl

pub closed : (o : Option CalculationGroup) (c : SpecCard) (cs : List SpecCard) → open_with o c.spec ≡ None → calculations_from o (c ∷ cs) [] ≡ calculations cs
closed o c cs is =
    ap (λ after. option_to_list (option_map calculation_of (group_at o c after)) ++ calculations_from (open_with o c.spec) cs []) (append-nil cs)
    ∙ ap (λ p. option_to_list (option_map calculation_of (cond (continues cs) None p)) ++ calculations_from p cs []) is
    ∙ ap (λ (gs : List (Calculation Key)). gs ++ calculations cs) (no_group (continues cs))

-- ---- a group

joining_none : (c : SpecCard) (cs : List SpecCard) → continues (c ∷ cs) ≡ false → joining (c ∷ cs) ≡ 0
joining_none c cs no_more = ap (λ b. cond b (suc (joining cs)) 0) no_more

joining_one : (c : SpecCard) (cs : List SpecCard) → continues (c ∷ cs) ≡ true → joining (c ∷ cs) ≡ suc (joining cs)
joining_one c cs goes = ap (λ b. cond b (suc (joining cs)) 0) goes

goes_by : (c : SpecCard) (cs : List SpecCard) (o : Option CalculationSpec) → calculation_on c.spec ≡ o → continues (c ∷ cs) ≡ option_map_or (λ k. joins k.control_level) o false
goes_by c cs o is = ap (λ p. option_map_or (λ k. joins k.control_level) p false) is

-- no AN or OR card stands after the group
ends_here : (g : CalculationGroup) (c : SpecCard) (cs : List SpecCard) → continues (c ∷ cs) ≡ false → calculations_from (Some g) (c ∷ cs) [] ≡ calculations (c ∷ cs) → completed g (c ∷ cs) ≡ g
    → after_group g (c ∷ cs) ≡ calculation_of (completed g (c ∷ cs)) ∷ calculations (drop (joining (c ∷ cs)) (c ∷ cs))
ends_here g c cs no_more same whole =
    ap (λ b. option_to_list (option_map calculation_of (cond b None (Some g))) ++ calculations_from (Some g) (c ∷ cs) []) no_more
    ∙ ap (λ gs. calculation_of g ∷ gs) same
    ∙ ap (λ n. calculation_of g ∷ calculations (drop n (c ∷ cs))) (sym (joining_none c cs no_more))
    ∙ ap (λ h. calculation_of h ∷ calculations (drop (joining (c ∷ cs)) (c ∷ cs))) (sym whole)

-- one does
goes_further : (g h : CalculationGroup) (c : SpecCard) (cs : List SpecCard) → continues (c ∷ cs) ≡ true → open_with (Some g) c.spec ≡ Some h → completed g (c ∷ cs) ≡ completed h cs
    → after_group h cs ≡ calculation_of (completed h cs) ∷ calculations (drop (joining cs) cs)
    → after_group g (c ∷ cs) ≡ calculation_of (completed g (c ∷ cs)) ∷ calculations (drop (joining (c ∷ cs)) (c ∷ cs))
goes_further g h c cs goes is whole rest =
    ap (λ b. option_to_list (option_map calculation_of (cond b None (Some g))) ++ calculations_from (Some g) (c ∷ cs) []) goes
    ∙ opened (Some g) c cs h is ∙ rest
    ∙ ap (λ n. calculation_of (completed h cs) ∷ calculations (drop n (c ∷ cs))) (sym (joining_one c cs goes))
    ∙ ap (λ f. calculation_of f ∷ calculations (drop (joining (c ∷ cs)) (c ∷ cs))) (sym whole)

from_group : (g : CalculationGroup) (cs : List SpecCard) → after_group g cs ≡ calculation_of (completed g cs) ∷ calculations (drop (joining cs) cs)
from_group g [] = refl
from_group g (c ∷ cs) = by_card (calculation_on c.spec) refl (λ h. from_group h cs)
  where
    by_joins : (k : CalculationSpec) (b : Bool) → calculation_on c.spec ≡ Some k → joins k.control_level ≡ b
        → ((h : CalculationGroup) → after_group h cs ≡ calculation_of (completed h cs) ∷ calculations (drop (joining cs) cs))
        → after_group g (c ∷ cs) ≡ calculation_of (completed g (c ∷ cs)) ∷ calculations (drop (joining (c ∷ cs)) (c ∷ cs))
    by_joins k true is joins_it rest =
        goes_further g (joined_group g k) c cs (goes_by c cs (Some k) is ∙ joins_it)
        (ap (option_map (group_with (Some g))) is ∙ ap (λ b. Some (cond b (joined_group g k) (alone k))) joins_it)
        (ap (λ o. option_map_or (λ k. cond (joins k.control_level) (completed (joined_group g k) cs) g) o g) is ∙ ap (λ b. cond b (completed (joined_group g k) cs) g) joins_it)
        (rest (joined_group g k))
    by_joins k false is apart rest =
        ends_here g c cs (goes_by c cs (Some k) is ∙ apart)
        (opened (Some g) c cs (alone k) (ap (option_map (group_with (Some g))) is ∙ ap (λ b. Some (cond b (joined_group g k) (alone k))) apart)
        ∙ sym (opened None c cs (alone k) (ap (option_map (group_with None)) is)))
        (ap (λ o. option_map_or (λ k. cond (joins k.control_level) (completed (joined_group g k) cs) g) o g) is ∙ ap (λ b. cond b (completed (joined_group g k) cs) g) apart)

    by_card : (o : Option CalculationSpec) → calculation_on c.spec ≡ o
        → ((h : CalculationGroup) → after_group h cs ≡ calculation_of (completed h cs) ∷ calculations (drop (joining cs) cs))
        → after_group g (c ∷ cs) ≡ calculation_of (completed g (c ∷ cs)) ∷ calculations (drop (joining (c ∷ cs)) (c ∷ cs))
    by_card None is rest =
        ends_here g c cs (goes_by c cs None is)
        (closed (Some g) c cs (ap (option_map (group_with (Some g))) is) ∙ sym (closed None c cs (ap (option_map (group_with None)) is)))
        (ap (λ o. option_map_or (λ k. cond (joins k.control_level) (completed (joined_group g k) cs) g) o g) is)
    by_card (Some k) is rest = by_joins k (joins k.control_level) is refl rest

-- ---- its cards

abbrev pub grown : CalculationGroup → List CalculationSpec → CalculationGroup
grown g ks = record { first = g.first; followers = g.followers ++ ks }

pub whole : (g : CalculationGroup) (cs : List SpecCard) → completed g cs ≡ grown g (calculation_specs_in (take (joining cs) cs))
whole g [] = ap (λ ks. record { first = g.first; followers = ks }) (sym (append-nil g.followers))
whole g (c ∷ cs) = by_card (calculation_on c.spec) refl (λ h. whole h cs)
  where
    ends : continues (c ∷ cs) ≡ false → completed g (c ∷ cs) ≡ g → completed g (c ∷ cs) ≡ grown g (calculation_specs_in (take (joining (c ∷ cs)) (c ∷ cs)))
    ends no_more same =
        same ∙ ap (λ ks. record { first = g.first; followers = ks }) (sym (append-nil g.followers))
        ∙ ap (λ n. grown g (calculation_specs_in (take n (c ∷ cs)))) (sym (joining_none c cs no_more))

    by_joins : (k : CalculationSpec) (b : Bool) → calculation_on c.spec ≡ Some k → joins k.control_level ≡ b
        → ((h : CalculationGroup) → completed h cs ≡ grown h (calculation_specs_in (take (joining cs) cs)))
        → completed g (c ∷ cs) ≡ grown g (calculation_specs_in (take (joining (c ∷ cs)) (c ∷ cs)))
    by_joins k true is joins_it rest =
        ap (λ o. option_map_or (λ k. cond (joins k.control_level) (completed (joined_group g k) cs) g) o g) is ∙ ap (λ b. cond b (completed (joined_group g k) cs) g) joins_it
        ∙ rest (joined_group g k)
        ∙ ap (λ ks. record { first = g.first; followers = ks }) (append_assoc g.followers (k ∷ []) (calculation_specs_in (take (joining cs) cs)))
        ∙ ap (λ o. grown g (cons_option o (calculation_specs_in (take (joining cs) cs)))) (sym is)
        ∙ ap (λ n. grown g (calculation_specs_in (take n (c ∷ cs)))) (sym (joining_one c cs (goes_by c cs (Some k) is ∙ joins_it)))
    by_joins k false is apart rest =
        ends (goes_by c cs (Some k) is ∙ apart)
        (ap (λ o. option_map_or (λ k. cond (joins k.control_level) (completed (joined_group g k) cs) g) o g) is ∙ ap (λ b. cond b (completed (joined_group g k) cs) g) apart)

    by_card : (o : Option CalculationSpec) → calculation_on c.spec ≡ o
        → ((h : CalculationGroup) → completed h cs ≡ grown h (calculation_specs_in (take (joining cs) cs)))
        → completed g (c ∷ cs) ≡ grown g (calculation_specs_in (take (joining (c ∷ cs)) (c ∷ cs)))
    by_card None is rest = ends (goes_by c cs None is) (ap (λ o. option_map_or (λ k. cond (joins k.control_level) (completed (joined_group g k) cs) g) o g) is)
    by_card (Some k) is rest = by_joins k (joins k.control_level) is refl rest

-- the group in front, and the calculations after it
pub front_group : (first : CalculationSpec) (cards : List SpecCard) → first_calculation cards ≡ Some first
    → calculations cards ≡ calculation_of (group_of first (take (joining (drop 1 cards) + 1) cards)) ∷ calculations (drop (joining (drop 1 cards) + 1) cards)
front_group first [] is = absurd cc
front_group first (c ∷ cs) is =
    opened None c cs (alone first) (ap (option_map (group_with None)) is) ∙ from_group (alone first) cs
    ∙ ap (λ g. calculation_of g ∷ calculations (drop (joining cs) cs)) (whole (alone first) cs)
    ∙ ap (λ n. calculation_of (group_of first (take n (c ∷ cs))) ∷ calculations (drop n (c ∷ cs))) (sym (add-one (joining cs)))

-- ---- one AN or OR card more

joining_at : (cards : List SpecCard) (i : ℕ) (c : SpecCard) → i < length cards → c ≡ get_or cards i c → drop i cards ≡ c ∷ drop (i + 1) cards
joining_at cards i c lt is = rw (add-one, drop-cons cards i c lt, ← is) refl

pub joining_more : (cards : List SpecCard) (i : ℕ) (c : SpecCard) (k : CalculationSpec) → i < length cards → c ≡ get_or cards i c → calculation_on c.spec ≡ Some k → joins k.control_level ≡ true
    → joining (drop i cards) ≡ suc (joining (drop (i + 1) cards))
joining_more cards i c k lt is on joins_it = ap joining (joining_at cards i c lt is) ∙ joining_one c (drop (i + 1) cards) (goes_by c (drop (i + 1) cards) (Some k) on ∙ joins_it)

pub joining_apart : (cards : List SpecCard) (i : ℕ) (c : SpecCard) (k : CalculationSpec) → i < length cards → c ≡ get_or cards i c → calculation_on c.spec ≡ Some k → joins k.control_level ≡ false
    → joining (drop i cards) ≡ 0
joining_apart cards i c k lt is on apart = ap joining (joining_at cards i c lt is) ∙ joining_none c (drop (i + 1) cards) (goes_by c (drop (i + 1) cards) (Some k) on ∙ apart)

pub joining_other : (cards : List SpecCard) (i : ℕ) (c : SpecCard) → i < length cards → c ≡ get_or cards i c → calculation_on c.spec ≡ None → joining (drop i cards) ≡ 0
joining_other cards i c lt is on = ap joining (joining_at cards i c lt is) ∙ joining_none c (drop (i + 1) cards) (goes_by c (drop (i + 1) cards) None on)

last_push : {X : Type 0} (xs : List X) (x : X) (d : Option X) → last_or d (xs ++ x ∷ []) ≡ Some x
last_push [] x d = refl
last_push (y ∷ ys) x d = last_push ys x (Some y)

pub last_more : (first : CalculationSpec) (cards : List SpecCard) (i : ℕ) (c : SpecCard) (k : CalculationSpec) → i < length cards → c ≡ get_or cards i c → calculation_on c.spec ≡ Some k
    → k ≡ unwrap_or (last_or None (calculation_specs_in (take (i + 1) cards))) first
last_more first cards i c k lt is on =
    let one : take (i + 1) cards ≡ take i cards ++ c ∷ [] = rw (take_more cards i c lt, ← is) refl in
    let specs : calculation_specs_in (take (i + 1) cards) ≡ calculation_specs_in (take i cards) ++ k ∷ [] = ap calculation_specs_in one ∙ filter_map-append (λ (d : SpecCard). calculation_on d.spec) (take i cards) (c ∷ []) ∙ ap (λ o. calculation_specs_in (take i cards) ++ cons_option o []) on in
    sym (ap (λ ks. unwrap_or (last_or None ks) first) specs ∙ ap (λ o. unwrap_or o first) (last_push (calculation_specs_in (take i cards)) k None))

-- ---- the last card, if it isn't a C card

goes_on : (c : SpecCard) (cs : List SpecCard) → calculation_on c.spec ≡ None → continues (cs ++ c ∷ []) ≡ continues cs
goes_on c [] none = goes_by c [] None none
goes_on c (d ∷ ds) none = refl

from_without : (o : Option CalculationGroup) (cs : List SpecCard) (c : SpecCard) → calculation_on c.spec ≡ None → calculations_from o (cs ++ c ∷ []) [] ≡ calculations_from o cs []
from_without o [] c none = closed o c [] (ap (option_map (group_with o)) none)
from_without o (d ∷ ds) c none =
    let same = ap continues (append-nil (ds ++ c ∷ [])) ∙ goes_on c ds none ∙ sym (ap continues (append-nil ds)) in
    ap (λ b. option_to_list (option_map calculation_of (cond b None (open_with o d.spec))) ++ calculations_from (open_with o d.spec) (ds ++ c ∷ []) []) same
    ∙ ap (λ gs. option_to_list (option_map calculation_of (group_at o d (ds ++ []))) ++ gs) (from_without (open_with o d.spec) ds c none)

pub without_last : (rest before : List SpecCard) (c : SpecCard) → rest ≡ before ++ c ∷ [] → calculation_on c.spec ≡ None → calculations rest ≡ calculations before
without_last rest before c is none = ap calculations is ∙ from_without None before c none
