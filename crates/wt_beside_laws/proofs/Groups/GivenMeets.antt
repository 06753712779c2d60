-- A group beside text: where `<nowiki/>` isn't put, neither is what would join a form in the group.
use Rattle.std.proofs.Common.{arith, ◌≡◌, ℕ, Bool, true, false, List, [], ◌∷◌, ◌++◌, map, refl, subst}
use Rattle.std.specs.Prelude.{◌||◌, not}
use Rattle.std.proofs.lemmas.Bool.Decides.{nat_tests}
use Rattle.wt_span.specs.Bytes.{is_white}
use Rattle.wt_guards.specs.declared.role.Role.{Role}
use Rattle.wt_guards.specs.declared.role.Role.TheVariants.{Link, External, Bare, Switch, Toggle, Mark, Group, Function, Node}
use Rattle.wt_guards.specs.declared.role.Transclusion.{Transclusion}
use Rattle.wt_guards.specs.declared.side.Side.TheVariants as side
use Rattle.wt_guards.specs.Content.{side_of}
use Rattle.wt_guards.specs.Guards.{left_side}
use Rattle.wt_guards.specs.Table.{hazard, is_trail, leads_group, follows_group}
use Rattle.wt_tiles.specs.declared.glyph.Glyph.{Glyph}
use Rattle.wt_tiles.specs.Glyphs.{glyph_of}
use Rattle.wt_tiles.specs.Urls.{is_word}
use Rattle.wt_beside_laws.specs.Cuts.{ends_word}
use Rattle.wt_beside_laws.specs.Given.{GivenSign, character, form, AreGivenSigns, LastMay, is_bare_url, ends_with_url}
use Rattle.wt_beside_laws.specs.Glyphs.{letter_glyphs}
use Rattle.wt_beside_laws.specs.Nodes.{IsNode}
use Rattle.wt_beside_laws.proofs.NodesMeet.{by_fits, letter_may}

-- ---- a letter behind it

not_false : (v : Bool) → not v ≡ false → v ≡ true
not_false true e = refl
not_false false e = cc

no_trail : (slashes : Bool) (d : ℕ) → follows_group slashes d ≡ true → is_trail d ≡ false
no_trail true d e = white d e
  where
    white : (d : ℕ) → (is_white d || false) ≡ true → is_trail d ≡ false
    white d e = grind (arith, nat_tests, e)
no_trail false d e = grind (arith, nat_tests, e)

only_white : (d : ℕ) → follows_group true d ≡ true → not (is_white d) ≡ false
only_white d e = by (is_white d) e
  where
    by : (v : Bool) → (v || false) ≡ true → not v ≡ false
    by true e = refl
    by false e = cc

letter_by : (r : Role) (own : List Glyph) (slashes : Bool) (d : ℕ) → IsNode r own → (is_bare_url r ≡ true → slashes ≡ true) → follows_group slashes d ≡ true
    → hazard (left_side r) (side.Text d) ≡ false
unfolding hazard
letter_by Link own slashes d n u e = no_trail slashes d e
letter_by External own slashes d n u e = refl
letter_by (Bare ends) own slashes d n u e = only_white d (subst (λ (v : Bool). follows_group v d ≡ true) (u refl) e)
letter_by Switch own slashes d n u e = refl
letter_by Toggle own slashes d n u e = refl
letter_by (Mark true began) own slashes d n u e = refl
letter_by (Mark false began) own slashes d n u e = refl
letter_by (Group h) own slashes d n u e = absurd n
letter_by Function own slashes d n u e = refl
letter_by Node own slashes d n u e = refl

may_follow : (g : Transclusion) (d : ℕ) → hazard (left_side (Group g)) (side.Text d) ≡ false → follows_group g.slashes d ≡ true
unfolding hazard
may_follow g d e = not_false (follows_group g.slashes d) e

pub behind_group : (g : Transclusion) (word : Bool) (signs : List GivenSign) (t : Bool) (d : ℕ) (more : List Glyph) → AreGivenSigns word signs
    → (ends_with_url signs ≡ true → g.slashes ≡ true) → hazard (left_side (Group g)) (side.Text d) ≡ false → LastMay signs (letter_glyphs t d ++ more)
behind_group g word [] t d more h u e = tt
behind_group g word (character b ∷ signs) t d more h u e = behind_group g (is_word b) signs t d more h.2 u e
behind_group g word (form r own ∷ []) t d more h u e =
    by_fits r (map glyph_of own) (letter_glyphs t d ++ more)
    (letter_may r t d more (letter_by r (map glyph_of own) g.slashes d h.0.node u (may_follow g d e)))
behind_group g word (form r own ∷ sign ∷ signs) t d more h u e =
    behind_group g (ends_word false (map glyph_of own)) (sign ∷ signs) t d more h.1 u e

-- ---- a letter before it

leads_no_word : (d : ℕ) → leads_group d ≡ true → is_word d ≡ false
leads_no_word d e = grind (arith, nat_tests, e)

pub before_group : (g : Transclusion) (d : ℕ) → hazard (side.Text d) (side_of (Group g)) ≡ false → is_word d ≡ false
unfolding hazard
before_group g d e = leads_no_word d (not_false (leads_group d) e)
