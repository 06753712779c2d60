-- Where the `]]` is that balances a `[[` doesn't depend on what is read behind it.
use Rattle.std.proofs.Common.{arith, ◌≡◌, ℕ, zero, suc, ◌+◌, ◌-◌, ◌≤◌, ◌==◌, Bool, true, false, Option, Some, None, List, [], ◌∷◌, ◌++◌, length, take, refl, sym, ap, ◌∙◌, subst}
use Rattle.std.specs.Prelude.{◌&&◌, ◌||◌, codes, option_map, if◌then◌else◌}
use Rattle.std.proofs.lemmas.List.{length-append, take-append-le}
use Rattle.wt_tiles.specs.declared.glyph.Glyph.{Glyph}
use Rattle.wt_tiles.specs.declared.glyph.GlyphClass.TheVariants as class
use Rattle.wt_tiles.specs.declared.shape.Shape.{Shape}
use Rattle.wt_tiles.specs.declared.target.LinkKind.{LinkKind}
use Rattle.wt_tiles.specs.declared.target.LinkKind.TheVariants.{Page, Category, Media}
use Rattle.wt_tiles.specs.declared.target.Target.{Target}
use Rattle.wt_tiles.specs.Glyphs.{first_is, begins}
use Rattle.wt_tiles.specs.Links.{target_of, kind_of, inner_len, has_pipe, head_len, link_shape, link_with, link_to, link_by, link_in, link_at}
use Rattle.wt_tiles.specs.Tiles.{size}
use Rattle.wt_beside_laws.specs.Tiles.{IsMediaKind, LeadsBy, IsMediaLink}
use Rattle.wt_beside_laws.proofs.LinkTiles.{place_stays, near_two, near_target, pipe_stays, with_made, if_some}
use Rattle.wt_tiles.specs.Partners.{DepthChange, Up, Down, Level, bracket_turn, by_bracket, balanced}

-- of two items and more
pub turn_stays : (g h : Glyph) (gs rest : List Glyph) → bracket_turn (g ∷ h ∷ (gs ++ rest)) ≡ bracket_turn (g ∷ h ∷ gs)
unfolding bracket_turn
turn_stays g h gs rest = refl

or_empty : Option (List Glyph) → List Glyph
or_empty None = []
or_empty (Some gs) = gs

pub same_list : (us vs : List Glyph) → Some us ≡ Some vs → us ≡ vs
unfolding or_empty
same_list us vs e = ap or_empty e

-- one item alone balances nothing
one_alone : (t : DepthChange) (d : ℕ) (g : Glyph) (ys : List Glyph) → 2 ≤ length ys → by_bracket t d (g ∷ []) (λ n e. balanced n e []) ≡ Some ys → true ≡ false
one_alone Up d g ys le e = cc
one_alone Level d g ys le e = cc
one_alone Down zero g ys le e =
    let size : length (g ∷ []) ≡ length ys = ap length (same_list (g ∷ []) ys e) in absurd (omega (arith, le, size))
one_alone Down (suc d) g ys le e = cc

by_turn : (t : DepthChange) (d : ℕ) (gs us rest ys : List Glyph)
    → ((n e : ℕ) → balanced n e us ≡ Some ys → balanced n e (us ++ rest) ≡ Some (ys ++ rest))
    → by_bracket t d gs (λ n e. balanced n e us) ≡ Some ys → by_bracket t d (gs ++ rest) (λ n e. balanced n e (us ++ rest)) ≡ Some (ys ++ rest)
by_turn Up d gs us rest ys f e = f 1 (suc d) e
by_turn Level d gs us rest ys f e = f 0 d e
by_turn Down zero gs us rest ys f e = ap (λ vs. Some (vs ++ rest)) (same_list gs ys e)
by_turn Down (suc d) gs us rest ys f e = f 1 d e

pub balanced_stays : (n d : ℕ) (gs rest ys : List Glyph) → 2 ≤ length ys → balanced n d gs ≡ Some ys → balanced n d (gs ++ rest) ≡ Some (ys ++ rest)
balanced_stays n d [] rest ys le e = cc
balanced_stays (suc n) d (g ∷ gs) rest ys le e = balanced_stays n d gs rest ys le e
balanced_stays zero d (g ∷ []) rest ys le e = let no : true ≡ false = one_alone (bracket_turn (g ∷ [])) d g ys le e in cc
balanced_stays zero d (g ∷ h ∷ gs) rest ys le e =
    ap (λ (t : DepthChange). by_bracket t d (g ∷ h ∷ (gs ++ rest)) (λ n c. balanced n c (h ∷ (gs ++ rest)))) (turn_stays g h gs rest)
    ∙ by_turn (bracket_turn (g ∷ h ∷ gs)) d (g ∷ h ∷ gs) (h ∷ gs) rest ys (λ m c z. balanced_stays m c (h ∷ gs) rest ys le z) e

-- ---- a link to media

is_media : (k : LinkKind) → IsMediaKind k → k ≡ Media
is_media Page h = absurd h
is_media Category h = absurd h
is_media Media h = refl

media_shape : (k : LinkKind) (head other n : ℕ) (gs us : List Glyph) → k ≡ Media → link_shape k head n gs ≡ link_shape k other n us
media_shape k head other n gs us e = subst (λ j. link_shape j head n gs ≡ link_shape j other n us) (sym e) refl

media_size : (k : LinkKind) (head n : ℕ) (gs : List Glyph) → k ≡ Media → size (link_shape k head n gs) ≡ n + 4
media_size k head n gs e = subst (λ j. size (link_shape j head n gs) ≡ n + 4) (sym e) (omega arith)

media_with : (t : Target) (n : ℕ) (gs rest : List Glyph) (w : Shape) (o : Option (List Glyph)) → kind_of t ≡ Media → n + 2 ≤ length gs → size w ≤ 2 + length gs
    → balanced 0 0 gs ≡ o → link_with t n (option_map (λ (ys : List Glyph). length gs - length ys) o) gs ≡ Some w
    → link_with t n (inner_len (kind_of t) n (gs ++ rest)) (gs ++ rest) ≡ Some w
media_with t n gs rest w None i le fits e is = cc
media_with t n gs rest w (Some ys) i le fits e is =
    let k : ℕ = length gs - length ys in
    let all : List Glyph = gs ++ rest in
    let m = with_made (has_pipe n gs && k == n + 1) (link_shape (kind_of t) (head_len t.colon n gs) k gs) w is in
    let large : size w ≡ k + 4 = ap size (sym m.1) ∙ media_size (kind_of t) (head_len t.colon n gs) k gs i in
    let two : 2 ≤ length ys = omega (arith, large, fits) in
    let left : length (gs ++ rest) ≡ length gs + length rest = length-append gs rest in
    let right : length (ys ++ rest) ≡ length ys + length rest = length-append ys rest in
    let same : length all - length (ys ++ rest) ≡ k = omega (arith, left, right) in
    ap (λ (j : LinkKind). link_with t n (inner_len j n all) all) i
    ∙ ap (λ (o : Option (List Glyph)). link_with t n (option_map (λ (us : List Glyph). length all - length us) o) all) (balanced_stays 0 0 gs rest ys two e)
    ∙ ap (λ (j : ℕ). link_with t n (Some j) all) same
    ∙ ap (λ (v : Bool). if v && k == n + 1 then None else Some (link_shape (kind_of t) (head_len t.colon n all) k all)) (pipe_stays n gs rest (omega (arith, le)))
    ∙ ap (λ (v : Bool). if v then None else Some (link_shape (kind_of t) (head_len t.colon n all) k all)) m.0
    ∙ ap (λ (u : Shape). Some u) (media_shape (kind_of t) (head_len t.colon n all) (head_len t.colon n gs) k all gs i ∙ m.1)

media_to : (o : Option Target) (n : ℕ) (gs rest : List Glyph) (w : Shape) → LeadsBy IsMediaKind o → n + 2 ≤ length gs → size w ≤ 2 + length gs
    → link_to o n gs ≡ Some w → link_to o n (gs ++ rest) ≡ Some w
media_to None n gs rest w h le fits is = cc
media_to (Some t) n gs rest w h le fits is =
    let i : kind_of t ≡ Media = is_media (kind_of t) h in
    media_with t n gs rest w (balanced 0 0 gs) i le fits refl (ap (λ (j : LinkKind). link_with t n (inner_len j n gs) gs) (sym i) ∙ is)

media_in : (n : ℕ) (gs rest : List Glyph) (w : Shape) → IsMediaLink gs n → size w ≤ 2 + length gs → link_in gs ≡ Some w → link_in (gs ++ rest) ≡ Some w
unfolding link_in
media_in n gs rest w h fits is =
    let own : link_to (target_of (take n gs)) n gs ≡ Some w = ap (λ (o : Option ℕ). link_by o gs) (sym h.target) ∙ is in
    let le : n + 2 ≤ length gs = h.fits in
    ap (λ (o : Option ℕ). link_by o (gs ++ rest))
    (place_stays (λ hs. first_is (class.Only 124) hs || begins (codes "]]") hs) (begins (codes "[[")) near_target (near_two 91 91) gs rest n h.target le)
    ∙ ap (λ hs. link_to (target_of hs) n (gs ++ rest)) (take-append-le n gs rest (omega (arith, le)))
    ∙ media_to (target_of (take n gs)) n gs rest w h.kind le fits own

pub media_stays : (a b : Glyph) (n : ℕ) (gs rest : List Glyph) (w : Shape) → IsMediaLink gs n → size w ≤ 2 + length gs
    → link_at (a ∷ b ∷ gs) ≡ Some w → link_at (a ∷ b ∷ (gs ++ rest)) ≡ Some w
unfolding link_at
media_stays a b n gs rest w h fits is =
    let s = if_some (begins (codes "[[") (a ∷ b ∷ gs)) (link_in gs) w is in
    ap (λ (v : Bool). if v then link_in (gs ++ rest) else None) s.0 ∙ media_in n gs rest w h fits s.1
