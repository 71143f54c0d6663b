-- Groups of cards, each with the file that it belongs to.
use Rattle.std.proofs.Common.{◌≡◌, ℕ, true, List, [], ◌∷◌, ◌++◌, Option, None, Some, refl, sym, ap, ◌∙◌, subst, append_assoc}
use Rattle.std.specs.Option.{option_or}
use Rattle.std.specs.Prelude.{is_some}
use Rattle.rpg_cards.specs.Plain.{Each}
use Rattle.rpg_cards.proofs.GroupLemmas.{open_group-push}
use Rattle.rpg_cards.specs.Groups.{Apart, Follower, Group, Heading, Role, file_of_group, followers, followers_with, groups, groups_from, open_file, open_group, opening, with_card}
use Rattle.rpg_cards.specs.declared.spec_card.SpecCard.{SpecCard}
use Rattle.rpg_sheet_specs.specs.declared.spec.Spec.{Spec}

-- `Known` of a file where a group is open; `P` of a heading and `Q` of a follower, with the file of their group
module _ {H F : Type 0} (cards : List SpecCard) (role : Spec → Role H F) (Known : Option (List ℕ) → Type 0) (P : Option (List ℕ) → H → Type 0) (Q : Option (List ℕ) → F → Type 0) where
  abbrev IsKnown : Option (Group H F) → Type 0
  IsKnown o = is_some o ≡ true → Known (file_of_group o)

  abbrev pub Heads : Type 0
  Heads = (before : List SpecCard) (c : SpecCard) (after : List SpecCard) (h : H) (name : Option (List ℕ)) → cards ≡ before ++ c ∷ after → role c.spec ≡ Heading h name →
      (is_some (open_group role before) ≡ true → Known (open_file role before)) → Known (option_or name (open_file role before)) × P (option_or name (open_file role before)) h

  abbrev pub Follows : Type 0
  Follows = (before : List SpecCard) (c : SpecCard) (after : List SpecCard) (f : F) → cards ≡ before ++ c ∷ after → role c.spec ≡ Follower f → Q (open_file role before) f

  abbrev pub InFile : Group H F → Type 0
  InFile g = Known g.file × (P g.file g.heading × Each (Q g.file) g.followers)

  module _ (heads : Heads) (follows : Follows) where
    -- the file after a card that is no heading
    same_file : (o : Option (Group H F)) (f : F) → file_of_group (with_card o (Follower f)) ≡ file_of_group o
    same_file None f = refl
    same_file (Some g) f = refl

    pushed : (before : List SpecCard) (c : SpecCard) (r : Role H F) → role c.spec ≡ r → open_group role (before ++ c ∷ []) ≡ with_card (open_group role before) r
    pushed before c r is = open_group-push role before c ∙ ap (with_card (open_group role before)) is

    each_follower : (before rest : List SpecCard) (file : Option (List ℕ)) → cards ≡ before ++ rest → open_file role before ≡ file → Each (Q file) (followers role rest)
    each_follower before [] file split is = tt
    each_follower before (c ∷ cs) file split is =
        by_role (λ e. each_follower (before ++ c ∷ []) cs file (split ∙ sym (append_assoc before (c ∷ []) cs)) e) (role c.spec) refl
      where
        by_role : (open_file role (before ++ c ∷ []) ≡ file → Each (Q file) (followers role cs)) → (r : Role H F) → role c.spec ≡ r → Each (Q file) (followers_with r (followers role cs))
        by_role rest (Heading h name) e = tt
        by_role rest (Follower f) e =
            (subst (λ (o : Option (List ℕ)). Q o f) is (follows before c cs f split e), rest (ap file_of_group (pushed before c (Follower f) e) ∙ same_file (open_group role before) f ∙ is))
        by_role rest Apart e = rest (ap file_of_group (pushed before c Apart e) ∙ is)

    stays : (o : Option (Group H F)) (f : F) → IsKnown o → IsKnown (with_card o (Follower f))
    stays None f known some = known some
    stays (Some g) f known some = known some

    each_from : (before rest : List SpecCard) (file : Option (List ℕ)) → cards ≡ before ++ rest → open_file role before ≡ file → IsKnown (open_group role before) → Each InFile (groups_from role file rest)
    each_from before [] file split is known = tt
    each_from before (c ∷ cs) file split is known =
        by_role (λ own e k. each_from (before ++ c ∷ []) cs own (split ∙ sym (append_assoc before (c ∷ []) cs)) e k) (role c.spec) refl
      where
        by_role : ((own : Option (List ℕ)) → open_file role (before ++ c ∷ []) ≡ own → IsKnown (open_group role (before ++ c ∷ [])) → Each InFile (groups_from role own cs)) →
            (r : Role H F) → role c.spec ≡ r → Each InFile (opening r file (followers role cs) (λ own. groups_from role own cs))
        by_role rest (Heading h name) e =
            let here : Known (option_or name file) × P (option_or name file) h = subst (λ (o : Option (List ℕ)). Known (option_or name o) × P (option_or name o) h) is (heads before c cs h name split e known) in
            let own : open_file role (before ++ c ∷ []) ≡ option_or name file = ap file_of_group (pushed before c (Heading h name) e) ∙ ap (option_or name) is in
            ((here.0, (here.1, each_follower (before ++ c ∷ []) cs (option_or name file) (split ∙ sym (append_assoc before (c ∷ []) cs)) own)), rest (option_or name file) own (λ some. subst Known (sym own) here.0))
        by_role rest (Follower f) e =
            rest file (ap file_of_group (pushed before c (Follower f) e) ∙ same_file (open_group role before) f ∙ is)
            (subst IsKnown (sym (pushed before c (Follower f) e)) (stays (open_group role before) f known))
        by_role rest Apart e = rest file (ap file_of_group (pushed before c Apart e) ∙ is) (subst IsKnown (sym (pushed before c Apart e)) known)

    pub each_in_file : Each InFile (groups role cards)
    each_in_file = each_from [] cards None refl refl (λ some. absurd cc)
