-- What nodes that stay begin with; and the tiles of a content with such nodes.
use Rattle.std.proofs.Common.{arith, ◌≡◌, ℕ, ◌==◌, Bool, true, false, Some, None, List, [], ◌∷◌, refl, sym, ◌∙◌, subst, inl, inr, ◌⊎◌}
use Rattle.std.specs.Prelude.{◌||◌}
use Rattle.std.specs.Char.{to_ascii_lowercase}
use Rattle.std.proofs.lemmas.Bool.Decides.{nat_tests}
use Rattle.wt_guards.specs.declared.role.Role.{Role}
use Rattle.wt_guards.specs.declared.role.Role.TheVariants.{Link, External, Bare, Switch, Toggle, Mark, Group, Function, Node}
use Rattle.wt_guards.specs.Content.{ContentSign, letter, thing}
use Rattle.wt_guards.specs.Guards.{Setting}
use Rattle.wt_tiles.specs.declared.glyph.Glyph.{Glyph}
use Rattle.wt_tiles.specs.declared.glyph.Glyph.TheVariants as glyph
use Rattle.wt_tiles.specs.declared.shape.Shape.{Shape}
use Rattle.wt_tiles.specs.Contexts.{in_line}
use Rattle.wt_tiles.specs.Tiles.{cuts}
use Rattle.wt_tiles.specs.Urls.{scheme_len, bare_url_at}
use Rattle.wt_beside_laws.specs.Beginnings.{AvoidsSwitches, AllAvoidSwitches, IsApart}
use Rattle.wt_beside_laws.specs.Cuts.{content_cut, own_glyphs, IsFree}
use Rattle.wt_beside_laws.specs.Glyphs.{content_glyphs, is_url_start, AvoidsUrls, AllAvoid}
use Rattle.wt_beside_laws.specs.Nodes.{IsDelimiter, IsOneLexeme, IsTagNode, IsCategoryNode, IsMediaNode, IsNode, AreNodes, NoneOpensPair, AllMeet}
use Rattle.wt_beside_laws.proofs.ContentTiles.{content_tiles}
use Rattle.wt_beside_laws.proofs.NodesMeet.{nodes_stand}
use Rattle.wt_beside_laws.proofs.TypedForms.{bare_none}

-- ---- a bare URL begins with `h` or `f`

no_scheme : (b : ℕ) (gs : List Glyph) → (to_ascii_lowercase b == 104) ≡ false → (to_ascii_lowercase b == 102) ≡ false → scheme_len (glyph.Byte b ∷ gs) ≡ 0
unfolding scheme_len
no_scheme b gs e f = rw (e, f) refl

pub no_url : (b : ℕ) (gs : List Glyph) (w : Shape) → (to_ascii_lowercase b == 104) ≡ false → (to_ascii_lowercase b == 102) ≡ false
    → bare_url_at false (glyph.Byte b ∷ gs) ≡ Some w → true ≡ false
no_url b gs w e f is =
    let no : None ≡ Some w = sym (bare_none false (glyph.Byte b ∷ gs) (no_scheme b gs e f)) ∙ is in cc

other_h : (k : ℕ) → (k == 116 || (k == 112 || (k == 115 || (k == 58 || k == 47)))) ≡ true → (k == 104) ≡ false
other_h k e = grind (arith, nat_tests, e)

other_f : (k : ℕ) → (k == 116 || (k == 112 || (k == 115 || (k == 58 || k == 47)))) ≡ true → (k == 102) ≡ false
other_f k e = grind (arith, nat_tests, e)

url_first : (b : ℕ) (gs : List Glyph) (w : Shape) → bare_url_at false (glyph.Byte b ∷ gs) ≡ Some w → is_url_start (glyph.Byte b) ≡ false
url_first b gs w is = by (is_url_start (glyph.Byte b)) refl
  where
    by : (v : Bool) → is_url_start (glyph.Byte b) ≡ v → is_url_start (glyph.Byte b) ≡ false
    by true e =
        let no : true ≡ false = no_url b gs w (other_h (to_ascii_lowercase b) e) (other_f (to_ascii_lowercase b) e) is in cc
    by false e = e

url_no_underscore : (b : ℕ) (gs : List Glyph) (w : Shape) → bare_url_at false (glyph.Byte b ∷ gs) ≡ Some w → (b == 95) ≡ false
url_no_underscore b gs w is = by (b == 95) refl
  where
    by : (v : Bool) → (b == 95) ≡ v → (b == 95) ≡ false
    by true e =
        let i : b ≡ 95 = grind (arith, nat_tests, e) in
        let no : true ≡ false = no_url 95 gs w refl refl (subst (λ (k : ℕ). bare_url_at false (glyph.Byte k ∷ gs) ≡ Some w) i is) in cc
    by false e = e

-- ---- each kind of node

pub other_avoids : (b : ℕ) (gs : List Glyph) → (b == 95) ≡ false → AvoidsSwitches (glyph.Byte b ∷ gs)
other_avoids b [] e = rw e refl
other_avoids b (g ∷ gs) e = rw e refl

delimiter_urls : (own : List Glyph) → IsDelimiter own → AvoidsUrls own
delimiter_urls own n = elim n [
  | inl i ↦ subst AvoidsUrls (sym i) refl
  | inr i ↦ subst AvoidsUrls (sym i) refl
]

delimiter_switches : (own : List Glyph) → IsDelimiter own → AvoidsSwitches own
delimiter_switches own n = elim n [
  | inl i ↦ subst AvoidsSwitches (sym i) refl
  | inr i ↦ subst AvoidsSwitches (sym i) refl
]

lexeme_urls : (own : List Glyph) → IsOneLexeme own → AvoidsUrls own
lexeme_urls own n = elim n [
  | inl i ↦ subst AvoidsUrls (sym i) refl
  | inr i ↦ subst AvoidsUrls (sym i.1) refl
]

lexeme_switches : (own : List Glyph) → IsOneLexeme own → AvoidsSwitches own
lexeme_switches own n = elim n [
  | inl i ↦ subst AvoidsSwitches (sym i) refl
  | inr i ↦ subst AvoidsSwitches (sym i.1) refl
]

other_urls : (own : List Glyph) → IsOneLexeme own ⊎ (IsTagNode own ⊎ (IsCategoryNode own ⊎ IsMediaNode own)) → AvoidsUrls own
other_urls own n = elim n [
  | inl one ↦ lexeme_urls own one
  | inr other ↦ elim other [
    | inl tag ↦ subst AvoidsUrls (sym tag.is) refl
    | inr link ↦ elim link [
      | inl category ↦ subst AvoidsUrls (sym category.is) refl
      | inr media ↦ subst AvoidsUrls (sym media.is) refl
    ]
  ]
]

other_switches : (own : List Glyph) → IsOneLexeme own ⊎ (IsTagNode own ⊎ (IsCategoryNode own ⊎ IsMediaNode own)) → AvoidsSwitches own
other_switches own n = elim n [
  | inl one ↦ lexeme_switches own one
  | inr other ↦ elim other [
    | inl tag ↦ subst AvoidsSwitches (sym tag.is) (other_avoids 60 tag.others refl)
    | inr link ↦ elim link [
      | inl category ↦ subst AvoidsSwitches (sym category.is) refl
      | inr media ↦ subst AvoidsSwitches (sym media.is) refl
    ]
  ]
]

pub node_urls : (r : Role) (own : List Glyph) → IsNode r own → AvoidsUrls own
node_urls Link own n = subst AvoidsUrls (sym n.is) refl
node_urls External own n = subst AvoidsUrls (sym n.is) refl
node_urls (Bare ends) own n = subst AvoidsUrls (sym n.is) (url_first n.first n.others n.shape n.url)
node_urls Switch own n = subst AvoidsUrls (sym n.is) refl
node_urls Toggle own n = delimiter_urls own n
node_urls (Mark ends began) own n = subst AvoidsUrls (sym n) refl
node_urls (Group g) own n = absurd n
node_urls Function own n = lexeme_urls own n
node_urls Node own n = other_urls own n

pub node_switches : (r : Role) (own : List Glyph) → IsNode r own → AvoidsSwitches own
node_switches Link own n = subst AvoidsSwitches (sym n.is) refl
node_switches External own n = subst AvoidsSwitches (sym n.is) (other_avoids 91 n.inside refl)
node_switches (Bare ends) own n = subst AvoidsSwitches (sym n.is) (other_avoids n.first n.others (url_no_underscore n.first n.others n.shape n.url))
node_switches Switch own n = subst AvoidsSwitches (sym n.is) refl
node_switches Toggle own n = delimiter_switches own n
node_switches (Mark ends began) own n = subst AvoidsSwitches (sym n) refl
node_switches (Group g) own n = absurd n
node_switches Function own n = lexeme_switches own n
node_switches Node own n = other_switches own n

pub all_urls : (signs : List ContentSign) → AreNodes signs → AllAvoid signs
all_urls [] n = tt
all_urls (letter c ∷ after) n = all_urls after n
all_urls (thing t ∷ after) n = (node_urls t.role (own_glyphs t) n.0, all_urls after n.1)

pub all_switches : (signs : List ContentSign) → AreNodes signs → AllAvoidSwitches signs
all_switches [] n = tt
all_switches (letter c ∷ after) n = all_switches after n
all_switches (thing t ∷ after) n = (node_switches t.role (own_glyphs t) n.0, all_switches after n.1)

-- ---- the content's tiles

pub tiles_before : (s : Setting) (signs : List ContentSign) (rest : List Glyph) → AreNodes signs → NoneOpensPair signs → AllMeet s [] signs rest → IsApart rest → IsFree in_line rest
    → cuts in_line false 0 (content_glyphs s [] signs rest) ≡ content_cut in_line s [] signs (cuts in_line false 0 rest)
tiles_before s signs rest n c m apart free =
    content_tiles in_line s signs rest (all_urls signs n) (all_switches signs n) apart free (nodes_stand s [] signs rest n c (all_urls signs n) m)
