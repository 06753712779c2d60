-- Behind each `<` in the source of a node comes a byte with which no tag that isn't ended, and no beginning of a comment, goes on.
use Rattle.std.proofs.Common.{◌≡◌, ◌≢◌, ◌⊎◌, inl, inr, ℕ, Bool, true, false, List, [], ◌∷◌, ◌++◌, map, refl, sym, ap, ◌∙◌, subst}
use Rattle.std.specs.Prelude.{◌||◌}
use Rattle.std.specs.List.{list_any}
use Rattle.std.proofs.lemmas.Bool.{eqb-true}
use Rattle.wt_span.specs.Items.{Item, char, whole, sources}
use Rattle.wt_guards.specs.declared.role.Role.{Role}
use Rattle.wt_guards.specs.declared.role.Role.TheVariants.{Link, External, Bare, Switch, Toggle, Mark, Group, Function, Node}
use Rattle.wt_tiles.specs.Glyphs.{glyph_of}
use Rattle.wt_text_edit_laws.specs.TextBetween.{EndsBy, HasNoTag}
use Rattle.wt_beside_laws.specs.Commented.{LexemesEnd}
use Rattle.wt_beside_laws.specs.Nodes.{IsTagNode, IsCategoryNode, IsMediaNode, IsOneLexeme, IsNode}
use Rattle.wt_beside_laws.proofs.Made.NodesSealed.{IsTailed, split_at, AreOthers, link_tailed, category_tailed, media_tailed, external_tailed, tag_tailed, url_others, switch_others, delimiter_others, lexeme_others, mark_others, lexeme_stops}
use Rattle.wt_beside_laws.proofs.Made.Sealed.{stops, last_ends}
use Rattle.wt_beside_laws.proofs.Own.Crossing.{TagsStop}

-- ---- one behind another

any_left : (p : ℕ → Bool) (xs ys : List ℕ) → list_any p xs ≡ true → list_any p (xs ++ ys) ≡ true
any_left p [] ys e = absurd (cc)
any_left p (x ∷ xs) ys e = by (p x) e (λ f. any_left p xs ys f)
  where
    by : (t : Bool) → (t || list_any p xs) ≡ true → (list_any p xs ≡ true → list_any p (xs ++ ys) ≡ true) → (t || list_any p (xs ++ ys)) ≡ true
    by true f go = refl
    by false f go = go f

both_stop : (xs ys : List ℕ) → TagsStop xs → TagsStop ys → TagsStop (xs ++ ys)
both_stop [] ys h k = k
both_stop (x ∷ xs) ys h k = (λ e. any_left stops xs ys (h.0 e), both_stop xs ys h.1 k)

other_stop : (b : ℕ) → b ≢ 60 → TagsStop (b ∷ [])
other_stop b n = (λ e. absurd (n (eqb-true b 60 e)), tt)

untagged_stop : (bs : List ℕ) → HasNoTag bs → TagsStop bs
untagged_stop [] h = tt
untagged_stop (b ∷ bs) h = (λ e. absurd (let no : true ≡ false = sym e ∙ h.0 in cc), untagged_stop bs h.1)

any_last : (p : ℕ → Bool) (b : ℕ) (bs : List ℕ) → EndsBy p (b ∷ bs) → list_any p (b ∷ bs) ≡ true
any_last p b [] e = ap (λ (t : Bool). t || false) e
any_last p b (c ∷ cs) e = by (p b) (any_last p c cs e)
  where
    by : (t : Bool) → list_any p (c ∷ cs) ≡ true → (t || list_any p (c ∷ cs)) ≡ true
    by true f = refl
    by false f = f

pub ends_stop : (bs : List ℕ) → EndsBy stops bs → TagsStop bs
ends_stop [] e = tt
ends_stop (b ∷ []) e = (λ i. absurd (let no : stops 60 ≡ true = subst (λ (k : ℕ). stops k ≡ true) (eqb-true b 60 i) e in cc), tt)
ends_stop (b ∷ c ∷ cs) e = (λ i. any_last stops c cs e, ends_stop (c ∷ cs) e)

-- ---- items

others_stop : (xs : List Item) → LexemesEnd xs → AreOthers (map glyph_of xs) → TagsStop (sources xs)
others_stop [] l u = tt
others_stop (char o b ∷ xs) l u = both_stop (b ∷ []) (sources xs) (other_stop b u.0) (others_stop xs l u.1)
others_stop (whole f o bs ∷ xs) l u = both_stop bs (sources xs) (ends_stop bs (lexeme_stops bs l.0)) (others_stop xs l.1 u.1)

tailed_stop : (c : ℕ) (xs : List Item) → stops c ≡ true → IsTailed c (map glyph_of xs) → TagsStop (sources xs)
tailed_stop c xs e t =
    let s = split_at c t.at xs t.stop t.trail in
    subst TagsStop (sym s.is) (both_stop (s.before ++ c ∷ []) s.behind (ends_stop (s.before ++ c ∷ []) (last_ends c s.before e)) (untagged_stop s.behind s.untagged))

-- ---- nodes

other_node : (xs : List Item) → LexemesEnd xs → (let own = map glyph_of xs in IsOneLexeme own ⊎ (IsTagNode own ⊎ (IsCategoryNode own ⊎ IsMediaNode own)))
    → TagsStop (sources xs)
other_node xs l n = elim n [
  | inl one ↦ others_stop xs l (lexeme_others (map glyph_of xs) one)
  | inr other ↦ elim other [
    | inl tag ↦ tailed_stop 62 xs refl (tag_tailed (map glyph_of xs) tag)
    | inr link ↦ elim link [
      | inl category ↦ tailed_stop 93 xs refl (category_tailed (map glyph_of xs) category)
      | inr media ↦ tailed_stop 93 xs refl (media_tailed (map glyph_of xs) media)
    ]
  ]
]

pub node_stop : (r : Role) (xs : List Item) → LexemesEnd xs → IsNode r (map glyph_of xs) → TagsStop (sources xs)
node_stop Link xs l n = tailed_stop 93 xs refl (link_tailed (map glyph_of xs) n)
node_stop External xs l n = tailed_stop 93 xs refl (external_tailed (map glyph_of xs) n)
node_stop (Bare ends) xs l n = others_stop xs l (url_others (map glyph_of xs) n)
node_stop Switch xs l n = others_stop xs l (switch_others (map glyph_of xs) n)
node_stop Toggle xs l n = others_stop xs l (delimiter_others (map glyph_of xs) n)
node_stop (Mark ends began) xs l n = others_stop xs l (mark_others (map glyph_of xs) n)
node_stop (Group g) xs l n = absurd n
node_stop Function xs l n = others_stop xs l (lexeme_others (map glyph_of xs) n)
node_stop Node xs l n = other_node xs l n
