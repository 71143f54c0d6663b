-- Groups of cards: what holds of each where it begins, and of each open group, holds of all groups of a source.
use Rattle.std.proofs.Common.{◌≡◌, ℕ, List, [], ◌∷◌, ◌++◌, Option, None, Some, refl, sym, ap, ◌∙◌, subst, append_assoc, append-nil}
use Rattle.std.specs.Option.{option_or}
use Rattle.rpg_cards.specs.Plain.{Each}
use Rattle.rpg_cards.proofs.GroupLemmas.{closing, file_after, file_with, groups-heading, groups_on, groups_on-card, open_group-push}
use Rattle.rpg_cards.specs.Groups.{Apart, Follower, Group, Heading, Role, followers, followers_with, groups, groups_from, open_group, opening, with_card, with_followers}
use Rattle.rpg_cards.specs.declared.spec_card.SpecCard.{SpecCard}
use Rattle.rpg_compile_program.proofs.Each.{each_append}
use Rattle.rpg_sheet_specs.specs.declared.spec.Spec.{Spec}

module _ {H F : Type 0} (role : Spec → Role H F) (cards : List SpecCard) where
  -- ---- where a group begins, with the groups before it

  -- a group with those in front of it and after it
  pub record IsAmong (P : List (Group H F) → Group H F → Type 0) (g : Group H F) : Type 0 where
    pub front : List (Group H F)
    pub following : List (Group H F)
    pub split : groups role cards ≡ front ++ g ∷ following
    pub holds : P front g

  file_push : (file : Option (List ℕ)) (before : List SpecCard) (c : SpecCard) → file_after role file (before ++ c ∷ []) ≡ file_with (file_after role file before) (role c.spec)
  file_push file [] c = refl
  file_push file (d ∷ ds) c = file_push (file_with file (role d.spec)) ds c

  abbrev begun : List SpecCard → H → Option (List ℕ) → List SpecCard → Group H F
  begun before h name after = record { heading = h; followers = followers role after; file = option_or name (file_after role None before) }

  module _ (P : List (Group H F) → Group H F → Type 0)
      (heads : (before : List SpecCard) (c : SpecCard) (after : List SpecCard) (h : H) (name : Option (List ℕ)) → cards ≡ before ++ c ∷ after → role c.spec ≡ Heading h name → P (groups role before) (begun before h name after)) where
    among_from : (before rest : List SpecCard) → cards ≡ before ++ rest → Each (IsAmong P) (groups_from role (file_after role None before) rest)
    among_from before [] split = tt
    among_from before (c ∷ cs) split = by (role c.spec) refl (λ own e. subst (λ file. Each (IsAmong P) (groups_from role file cs)) e (among_from (before ++ c ∷ []) cs (split ∙ sym (append_assoc before (c ∷ []) cs))))
      where
        file : Option (List ℕ)
        file = file_after role None before

        by : (r : Role H F) → role c.spec ≡ r → ((own : Option (List ℕ)) → file_after role None (before ++ c ∷ []) ≡ own → Each (IsAmong P) (groups_from role own cs)) → Each (IsAmong P) (opening r file (followers role cs) (λ own. groups_from role own cs))
        by (Heading h name) is rest =
            let here : groups_from role file (c ∷ cs) ≡ begun before h name cs ∷ groups_from role (option_or name file) cs = ap (λ (r : Role H F). opening r file (followers role cs) (λ own. groups_from role own cs)) is in (
              record {
                front = groups role before;
                following = groups_from role (option_or name file) cs;
                split = ap (groups role) split ∙ groups-heading role None before c cs h name is ∙ ap (λ gs. groups role before ++ gs) here;
                holds = heads before c cs h name split is;
              },
              rest (option_or name file) (file_push None before c ∙ ap (file_with file) is),
            )
        by (Follower f) is rest = rest file (file_push None before c ∙ ap (file_with file) is)
        by Apart is rest = rest file (file_push None before c ∙ ap (file_with file) is)

    pub each_among : Each (IsAmong P) (groups role cards)
    each_among = among_from [] cards refl

  -- ---- open groups

  module _ (P : Group H F → Type 0) (opened : (before after : List SpecCard) → cards ≡ before ++ after → (g : Group H F) → open_group role before ≡ Some g → P g) where
    whole : (g : Group H F) → P g → P (with_followers [] g)
    whole g h = subst (λ fs. P (record { heading = g.heading; followers = fs; file = g.file })) (sym (append-nil g.followers)) h

    last_one : (o : Option (Group H F)) → ((g : Group H F) → o ≡ Some g → P g) → Each P (groups_on role o [])
    last_one None h = tt
    last_one (Some g) h = (whole g (h g refl), tt)

    closed_one : (r : Role H F) (o : Option (Group H F)) → ((g : Group H F) → o ≡ Some g → P g) → Each P (closing r o)
    closed_one (Heading h name) None e = tt
    closed_one (Heading h name) (Some g) e = (e g refl, tt)
    closed_one (Follower f) o e = tt
    closed_one Apart o e = tt

    open_from : (before after : List SpecCard) → cards ≡ before ++ after → Each P (groups_on role (open_group role before) after)
    open_from before [] split = last_one (open_group role before) (opened before [] split)
    open_from before (c ∷ cs) split =
        let o = open_group role before in
        let following = open_from (before ++ c ∷ []) cs (split ∙ sym (append_assoc before (c ∷ []) cs)) in
        subst (Each P) (sym (groups_on-card role o c cs))
        (each_append P (closing (role c.spec) o) (groups_on role (with_card o (role c.spec)) cs) (closed_one (role c.spec) o (opened before (c ∷ cs) split))
        (subst (λ p. Each P (groups_on role p cs)) (open_group-push role before c) following))

    pub each_open : Each P (groups role cards)
    each_open = open_from [] cards refl

-- ---- what stands on followers

module _ {H F : Type 0} (role : Spec → Role H F) (Q : F → Type 0) where
  abbrev pub HasValid : SpecCard → Type 0
  HasValid c = (f : F) → role c.spec ≡ Follower f → Q f

  abbrev pub InGroup : Group H F → Type 0
  InGroup g = Each Q g.followers

  followers_valid : (cs : List SpecCard) → Each HasValid cs → Each Q (followers role cs)
  followers_valid [] h = tt
  followers_valid (c ∷ cs) h = by (role c.spec) (h.0) (followers_valid cs h.1)
    where
      by : (r : Role H F) → ((f : F) → r ≡ Follower f → Q f) → Each Q (followers role cs) → Each Q (followers_with r (followers role cs))
      by (Heading x name) here rest = tt
      by (Follower f) here rest = (here f refl, rest)
      by Apart here rest = rest

  groups_valid : (file : Option (List ℕ)) (cs : List SpecCard) → Each HasValid cs → Each InGroup (groups_from role file cs)
  groups_valid file [] h = tt
  groups_valid file (c ∷ cs) h = by (role c.spec) (λ own. groups_valid own cs h.1)
    where
      by : (r : Role H F) → ((own : Option (List ℕ)) → Each InGroup (groups_from role own cs)) → Each InGroup (opening r file (followers role cs) (λ own. groups_from role own cs))
      by (Heading x name) rest = (followers_valid cs h.1, rest (option_or name file))
      by (Follower f) rest = rest file
      by Apart rest = rest file

  pub each_valid : (cs : List SpecCard) → Each HasValid cs → Each InGroup (groups role cs)
  each_valid cs h = groups_valid None cs h
