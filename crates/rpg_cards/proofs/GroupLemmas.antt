-- How groups grow by a card, and to which group a card belongs.
use Rattle.std.proofs.Common.{◌≡◌, ℕ, ◌+◌, List, [], ◌∷◌, ◌++◌, length, take, Option, None, Some, refl, sym, ap, ◌∙◌, arith, append_assoc, append-nil}
use Rattle.std.proofs.Math.Seq.{take-append_seam}
use Rattle.std.proofs.lemmas.List.Sums.{fold-append}
use Rattle.std.specs.List.{last_or}
use Rattle.std.specs.Option.{option_map, option_or, option_to_list}
use Rattle.std.specs.Prelude.{fold}
use Rattle.rpg_cards.specs.Groups.{Role, Heading, Follower, Apart, Group, followers_with, opening, followers, groups_from, groups, open_group, file_of_group, with_followers, with_card}
use Rattle.rpg_cards.specs.declared.spec_card.SpecCard.{SpecCard}
use Rattle.rpg_sheet_specs.specs.declared.spec.Spec.{Spec}

no_more_followers : {H F : Type 0} (g : Group H F) → with_followers [] g ≡ g
no_more_followers g = ap (λ fs. record { heading = g.heading; followers = fs; file = g.file }) (append-nil g.followers)

-- the groups that a card closes
abbrev pub closing : {H F : Type 0} → Role H F → Option (Group H F) → List (Group H F)
closing (Heading h name) o = option_to_list o
closing (Follower f) o = []
closing Apart o = []

abbrev pub one_if_heading : {H F : Type 0} → Role H F → ℕ
one_if_heading (Heading h name) = 1
one_if_heading (Follower f) = 0
one_if_heading Apart = 0

-- the file of the groups after a card
abbrev pub file_with : {H F : Type 0} → Option (List ℕ) → Role H F → Option (List ℕ)
file_with file (Heading h name) = option_or name file
file_with file (Follower f) = file
file_with file Apart = file

module _ {H F : Type 0} (role : Spec → Role H F) where
  -- the groups of cards after an open group, that one first
  abbrev pub groups_on : Option (Group H F) → List SpecCard → List (Group H F)
  groups_on o cards = option_to_list (option_map (with_followers (followers role cards)) o) ++ groups_from role (file_of_group o) cards

  abbrev pub one_more : Option (Group H F) → SpecCard → Option (Group H F)
  one_more o c = with_card o (role c.spec)

  pub groups_on-card : (o : Option (Group H F)) (c : SpecCard) (cs : List SpecCard) → groups_on o (c ∷ cs) ≡ closing (role c.spec) o ++ groups_on (one_more o c) cs
  groups_on-card o c cs = by_role (role c.spec) o
    where
      by_role : (r : Role H F) (o : Option (Group H F)) → option_to_list (option_map (with_followers (followers_with r (followers role cs))) o) ++ opening r (file_of_group o) (followers role cs) (λ own. groups_from role own cs)
          ≡ closing r o ++ groups_on (with_card o r) cs
      by_role (Heading h name) None = refl
      by_role (Heading h name) (Some g) = ap (λ x. x ∷ groups_on (with_card (Some g) (Heading h name)) cs) (no_more_followers g)
      by_role (Follower f) None = refl
      by_role (Follower f) (Some g) = ap (λ fs. record { heading = g.heading; followers = fs; file = g.file } ∷ groups_from role g.file cs) (sym (append_assoc g.followers (f ∷ []) (followers role cs)))
      by_role Apart None = refl
      by_role Apart (Some g) = refl

  -- what was closed before doesn't show in the last group
  last_group : (r : Role H F) (o : Option (Group H F)) (cs : List SpecCard) → last_or None (closing r o ++ groups_on (with_card o r) cs) ≡ last_or None (groups_on (with_card o r) cs)
  last_group (Heading h name) None cs = refl
  last_group (Heading h name) (Some g) cs = refl
  last_group (Follower f) o cs = refl
  last_group Apart o cs = refl

  last_on : (o : Option (Group H F)) (cards : List SpecCard) → last_or None (groups_on o cards) ≡ fold one_more o cards
  last_on None [] = refl
  last_on (Some g) [] = ap (λ x. Some x) (no_more_followers g)
  last_on o (c ∷ cs) = ap (last_or None) (groups_on-card o c cs) ∙ last_group (role c.spec) o cs ∙ last_on (one_more o c) cs

  pub open_group-is : (cards : List SpecCard) → open_group role cards ≡ fold one_more None cards
  open_group-is cards = last_on None cards

  -- the law: what is open after a card
  pub open_group-push : (before : List SpecCard) (c : SpecCard) → open_group role (before ++ c ∷ []) ≡ with_card (open_group role before) (role c.spec)
  open_group-push before c = open_group-is (before ++ c ∷ []) ∙ fold-append one_more None before (c ∷ []) ∙ ap (λ o. one_more o c) (sym (open_group-is before))

  -- ---- to which group cards belong

  abbrev pub closed : Option (Group H F) → List SpecCard → List (Group H F)
  closed o [] = []
  closed o (c ∷ cs) = closing (role c.spec) o ++ closed (one_more o c) cs

  groups_on-append : (o : Option (Group H F)) (before after : List SpecCard) → groups_on o (before ++ after) ≡ closed o before ++ groups_on (fold one_more o before) after
  groups_on-append o [] after = refl
  groups_on-append o (c ∷ cs) after =
      groups_on-card o c (cs ++ after) ∙ ap (λ gs. closing (role c.spec) o ++ gs) (groups_on-append (one_more o c) cs after)
      ∙ sym (append_assoc (closing (role c.spec) o) (closed (one_more o c) cs) (groups_on (fold one_more (one_more o c) cs) after))

  -- the law: the cards that follow go to the open group, up to the next heading
  pub groups-append : (before after : List SpecCard) → groups role (before ++ after) ≡ closed None before ++ groups_on (open_group role before) after
  groups-append before after = groups_on-append None before after ∙ ap (λ o. closed None before ++ groups_on o after) (sym (open_group-is before))

  -- ---- how many groups there are

  count_from : (file : Option (List ℕ)) (before : List SpecCard) (c : SpecCard) → length (groups_from role file (before ++ c ∷ [])) ≡ length (groups_from role file before) + one_if_heading (role c.spec)
  count_from file [] c = by_role (role c.spec)
    where
      by_role : (r : Role H F) → length (opening r file [] (λ own. [])) ≡ 0 + one_if_heading r
      by_role (Heading h name) = refl
      by_role (Follower f) = refl
      by_role Apart = refl
  count_from file (d ∷ ds) c = by_role (role d.spec) (λ own. count_from own ds c)
    where
      by_role : (r : Role H F) → ((own : Option (List ℕ)) → length (groups_from role own (ds ++ c ∷ [])) ≡ length (groups_from role own ds) + one_if_heading (role c.spec))
          → length (opening r file (followers role (ds ++ c ∷ [])) (λ own. groups_from role own (ds ++ c ∷ []))) ≡ length (opening r file (followers role ds) (λ own. groups_from role own ds)) + one_if_heading (role c.spec)
      by_role (Heading h name) rest = let more = rest (option_or name file) in omega arith
      by_role (Follower f) rest = rest file
      by_role Apart rest = rest file

  pub groups-push : (before : List SpecCard) (c : SpecCard) → length (groups role (before ++ c ∷ [])) ≡ length (groups role before) + one_if_heading (role c.spec)
  groups-push before c = count_from None before c

  -- ---- the groups before a heading are whole

  -- the file of the last group
  abbrev pub file_after : Option (List ℕ) → List SpecCard → Option (List ℕ)
  file_after file [] = file
  file_after file (d ∷ ds) = file_after (file_with file (role d.spec)) ds

  pub followers-heading : (front : List SpecCard) (c : SpecCard) (after : List SpecCard) (h : H) (name : Option (List ℕ)) → role c.spec ≡ Heading h name → followers role (front ++ c ∷ after) ≡ followers role front
  followers-heading [] c after h name e = ap (λ (r : Role H F). followers_with r (followers role after)) e
  followers-heading (d ∷ ds) c after h name e = ap (followers_with (role d.spec)) (followers-heading ds c after h name e)

  pub groups-heading : (file : Option (List ℕ)) (front : List SpecCard) (c : SpecCard) (after : List SpecCard) (h : H) (name : Option (List ℕ)) → role c.spec ≡ Heading h name
      → groups_from role file (front ++ c ∷ after) ≡ groups_from role file front ++ groups_from role (file_after file front) (c ∷ after)
  groups-heading file [] c after h name e = refl
  groups-heading file (d ∷ ds) c after h name e =
      ap (λ fs. opening (role d.spec) file fs (λ own. groups_from role own (ds ++ c ∷ after))) (followers-heading ds c after h name e)
      ∙ by_role (role d.spec) (λ own. groups-heading own ds c after h name e)
    where
      by_role : (r : Role H F) → ((own : Option (List ℕ)) → groups_from role own (ds ++ c ∷ after) ≡ groups_from role own ds ++ groups_from role (file_after own ds) (c ∷ after))
          → opening r file (followers role ds) (λ own. groups_from role own (ds ++ c ∷ after)) ≡ opening r file (followers role ds) (λ own. groups_from role own ds) ++ groups_from role (file_after (file_with file r) ds) (c ∷ after)
      by_role (Heading g n) rest = ap (λ gs. record { heading = g; followers = followers role ds; file = option_or n file } ∷ gs) (rest (option_or n file))
      by_role (Follower f) rest = rest file
      by_role Apart rest = rest file

  -- so the groups of the cards before a heading are as many at the front of all groups
  pub groups-taken : (before : List SpecCard) (c : SpecCard) (after : List SpecCard) (h : H) (name : Option (List ℕ)) → role c.spec ≡ Heading h name
      → take (length (groups role before)) (groups role (before ++ c ∷ after)) ≡ groups role before
  groups-taken before c after h name e =
      ap (take (length (groups role before))) (groups-heading None before c after h name e) ∙ take-append_seam (groups role before) (groups_from role (file_after None before) (c ∷ after))
  -- ---- rows that don't name the file
