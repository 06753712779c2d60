-- A link is the same tile whatever is read behind it, unless that begins with a letter that joins it.
use Rattle.std.proofs.Common.{arith, ◌≡◌, ℕ, suc, ◌+◌, ◌-◌, ◌≤◌, ◌==◌, Bool, true, false, Option, Some, None, List, [], ◌∷◌, ◌++◌, length, take, drop, refl, sym, ap, ap₂, ◌∙◌, subst}
use Rattle.std.specs.Prelude.{◌&&◌, ◌||◌, codes, option_map, if◌then◌else◌}
use Rattle.std.proofs.lemmas.List.{drop-append-le, take-append-le, length-drop}
use Rattle.wt_tiles.specs.declared.glyph.Glyph.{Glyph}
use Rattle.wt_tiles.specs.declared.glyph.GlyphClass.{GlyphClass}
use Rattle.wt_tiles.specs.declared.glyph.GlyphClass.TheVariants as class
use Rattle.wt_tiles.specs.declared.shape.Shape.{Shape}
use Rattle.wt_tiles.specs.declared.shape.TileKind.TheVariants as kind
use Rattle.wt_tiles.specs.declared.target.LinkKind.{LinkKind}
use Rattle.wt_tiles.specs.declared.target.LinkKind.TheVariants.{Page, Category, Media}
use Rattle.wt_tiles.specs.declared.target.Target.{Target}
use Rattle.wt_tiles.specs.Glyphs.{in_class, first_is, run_len, begins}
use Rattle.wt_tiles.specs.Links.{place, target_of, kind_of, target_len, to_close, inner_len, has_pipe, head_len, link_shape, link_with, link_to, link_by, link_in, link_at}
use Rattle.wt_tiles.specs.Tiles.{size}
use Rattle.wt_beside_laws.specs.Tiles.{IsPlainKind, IsCategoryKind, LeadsBy, AimsBy, IsPlainLink, IsCategoryLink}

-- ---- places that are found look no further than the next item

-- of two items and more a test says the same whatever follows
abbrev pub IsNear : (List Glyph → Bool) → Type 0
IsNear p = (g h : Glyph) (gs rest : List Glyph) → p (g ∷ h ∷ (gs ++ rest)) ≡ p (g ∷ h ∷ gs)

near_first : (k : GlyphClass) → IsNear (first_is k)
near_first k g h gs rest = refl

pub near_two : (a b : ℕ) → IsNear (begins (a ∷ b ∷ []))
near_two a b g h gs rest = refl

pub near_target : IsNear (λ hs. first_is (class.Only 124) hs || begins (codes "]]") hs)
near_target g h gs rest = refl

pub or_none : Option ℕ → ℕ
or_none None = 0
or_none (Some i) = i

pub some_same : (i j : ℕ) → Some i ≡ Some j → j ≡ i
unfolding or_none
some_same i j e = sym (ap or_none e)

pub some_suc : (o : Option ℕ) (n : ℕ) → option_map (λ (i : ℕ). suc i) o ≡ Some n → (m : ℕ) × (o ≡ Some m) × (n ≡ suc m)
some_suc None n e = cc
some_suc (Some m) n e = (m, refl, some_same (suc m) n e)

pub place_by : (a b : Bool) (o p : Option ℕ) (n : ℕ) → (if a then Some 0 else (if b then None else option_map (λ (i : ℕ). suc i) o)) ≡ Some n
    → ((m : ℕ) → n ≡ suc m → o ≡ Some m → p ≡ Some m) → (if a then Some 0 else (if b then None else option_map (λ (i : ℕ). suc i) p)) ≡ Some n
place_by true b o p n e f = e
place_by false true o p n e f = cc
place_by false false o p n e f =
    let s = some_suc o n e in
    ap (option_map (λ (i : ℕ). suc i)) (f s.0 s.2 s.1) ∙ ap (λ (i : ℕ). Some i) (sym s.2)

pub place_stays : (stop bar : List Glyph → Bool) → IsNear stop → IsNear bar → (gs rest : List Glyph) (n : ℕ) → place stop bar gs ≡ Some n → n + 2 ≤ length gs
    → place stop bar (gs ++ rest) ≡ Some n
place_stays stop bar s b [] rest n e le = cc
place_stays stop bar s b (g ∷ []) rest n e le = absurd (omega (arith, le))
place_stays stop bar s b (g ∷ h ∷ gs) rest n e le =
    ap (λ (v : Bool). if v then Some 0 else (if bar (g ∷ h ∷ (gs ++ rest)) then None else option_map (λ (i : ℕ). suc i) (place stop bar (h ∷ (gs ++ rest))))) (s g h gs rest)
    ∙ ap (λ (v : Bool). if stop (g ∷ h ∷ gs) then Some 0 else (if v then None else option_map (λ (i : ℕ). suc i) (place stop bar (h ∷ (gs ++ rest))))) (b g h gs rest)
    ∙ place_by (stop (g ∷ h ∷ gs)) (bar (g ∷ h ∷ gs)) (place stop bar (h ∷ gs)) (place stop bar (h ∷ (gs ++ rest))) n e
    (λ m z k. place_stays stop bar s b (h ∷ gs) rest m k (omega (arith, le, z)))

-- ---- runs

pub run_stays : (k : GlyphClass) (gs rest : List Glyph) → first_is k rest ≡ false → run_len k (gs ++ rest) ≡ run_len k gs
run_stays k [] [] e = refl
run_stays k [] (r ∷ rest) e = ap (λ (v : Bool). if v then 1 + run_len k rest else 0) e
run_stays k (g ∷ gs) rest e = ap (λ (n : ℕ). if in_class k g then 1 + n else 0) (run_stays k gs rest e)

-- ---- a link to a page or a category, by what follows its `[[`

pub first_stays : (k : GlyphClass) (gs rest : List Glyph) → 1 ≤ length gs → first_is k (gs ++ rest) ≡ first_is k gs
first_stays k [] rest le = absurd (omega (arith, le))
first_stays k (g ∷ gs) rest le = refl

pub pipe_stays : (n : ℕ) (gs rest : List Glyph) → n + 1 ≤ length gs → has_pipe n (gs ++ rest) ≡ has_pipe n gs
pipe_stays n gs rest le =
    let size : length (drop n gs) ≡ length gs - n = length-drop n gs in
    ap (first_is (class.Only 124)) (drop-append-le n gs rest (omega (arith, le))) ∙ first_stays (class.Only 124) (drop n gs) rest (omega (arith, size, le))

pub head_stays : (colon : Bool) (n : ℕ) (gs rest : List Glyph) → n + 1 ≤ length gs → head_len colon n (gs ++ rest) ≡ head_len colon n gs
head_stays colon n gs rest le =
    ap₂ (λ (u v : Bool). if u then n + 1 else (if colon && v then 1 else 0)) (pipe_stays n gs rest le) (first_stays (class.Only 58) gs rest (omega (arith, le)))

-- a link of this kind stays before these items
abbrev Keeps : List Glyph → LinkKind → Type 0
Keeps rest Page = first_is class.Trail rest ≡ false
Keeps rest Category = Unit {0}
Keeps rest Media = ⊥

plain : (rest : List Glyph) (k : LinkKind) → Keeps rest k → IsPlainKind k
plain rest Page h = tt
plain rest Category h = tt
plain rest Media h = absurd h

shape_stays : (k : LinkKind) (head n : ℕ) (gs rest : List Glyph) → Keeps rest k → n + 2 ≤ length gs
    → link_shape k head n (gs ++ rest) ≡ link_shape k head n gs
shape_stays Page head n gs rest h le =
    ap (λ (i : ℕ). record { kind = kind.Link; opening = 2 + head; inside = n - head; closing = 2; trail = i })
    (ap (run_len class.Trail) (drop-append-le (n + 2) gs rest le) ∙ run_stays class.Trail (drop (n + 2) gs) rest h)
shape_stays Category head n gs rest h le = refl
shape_stays Media head n gs rest h le = absurd h

-- its `]]` is in it
shape_closes : (k : LinkKind) (head n : ℕ) (gs : List Glyph) → IsPlainKind k → size (link_shape k head n gs) ≤ 2 + length gs → n + 2 ≤ length gs
shape_closes Page head n gs h le = omega (arith, le)
shape_closes Category head n gs h le = omega (arith, le)
shape_closes Media head n gs h le = absurd h

close_stays : (n k : ℕ) (gs rest : List Glyph) → to_close (drop n gs) ≡ Some k → n + k + 2 ≤ length gs → to_close (drop n (gs ++ rest)) ≡ Some k
close_stays n k gs rest e le =
    let size : length (drop n gs) ≡ length gs - n = length-drop n gs in
    ap to_close (drop-append-le n gs rest (omega (arith, le)))
    ∙ place_stays (begins (codes "]]")) (begins (codes "[[")) (near_two 93 93) (near_two 91 91) (drop n gs) rest k e (omega (arith, size, le))

inner_by : (k : LinkKind) (n : ℕ) (gs hs : List Glyph) → IsPlainKind k → to_close (drop n gs) ≡ to_close (drop n hs) → inner_len k n gs ≡ inner_len k n hs
inner_by Page n gs hs h e = ap (option_map (λ (i : ℕ). n + i)) e
inner_by Category n gs hs h e = ap (option_map (λ (i : ℕ). n + i)) e
inner_by Media n gs hs h e = absurd h

inner_is : (k : LinkKind) (n : ℕ) (gs : List Glyph) → IsPlainKind k → inner_len k n gs ≡ option_map (λ (i : ℕ). n + i) (to_close (drop n gs))
inner_is Page n gs h = refl
inner_is Category n gs h = refl
inner_is Media n gs h = absurd h

or_this : Shape → Option Shape → Shape
or_this u None = u
or_this u (Some v) = v

pub same_shape : (u v : Shape) → Some u ≡ Some v → u ≡ v
unfolding or_this
same_shape u v e = ap (or_this u) e

pub with_made : (b : Bool) (u w : Shape) → (if b then None else Some u) ≡ Some w → (b ≡ false) × (u ≡ w)
with_made true u w e = cc
with_made false u w e = (refl, same_shape u w e)

-- where a `]]` is found
with_stays : (t : Target) (n k : ℕ) (gs rest : List Glyph) (w : Shape) → Keeps rest (kind_of t) → size w ≤ 2 + length gs
    → to_close (drop n gs) ≡ Some k → link_with t n (Some (n + k)) gs ≡ Some w
    → (n + k + 2 ≤ length gs) × (link_with t n (Some (n + k)) (gs ++ rest) ≡ Some w)
with_stays t n k gs rest w h le c is =
    let m = with_made (has_pipe n gs && n + k == n + 1) (link_shape (kind_of t) (head_len t.colon n gs) (n + k) gs) w is in
    let fits : n + k + 2 ≤ length gs =
    shape_closes (kind_of t) (head_len t.colon n gs) (n + k) gs (plain rest (kind_of t) h) (subst (λ (v : Shape). size v ≤ 2 + length gs) (sym m.1) le) in
    let head : head_len t.colon n (gs ++ rest) ≡ head_len t.colon n gs = head_stays t.colon n gs rest (omega (arith, fits)) in (
      fits,
      ap (λ (v : Bool). if v && n + k == n + 1 then None else Some (link_shape (kind_of t) (head_len t.colon n (gs ++ rest)) (n + k) (gs ++ rest)))
          (pipe_stays n gs rest (omega (arith, fits)))
          ∙ ap (λ (v : Bool). if v then None else Some (link_shape (kind_of t) (head_len t.colon n (gs ++ rest)) (n + k) (gs ++ rest))) m.0
          ∙ ap (λ (i : ℕ). Some (link_shape (kind_of t) i (n + k) (gs ++ rest))) head
          ∙ ap (λ (u : Shape). Some u) (shape_stays (kind_of t) (head_len t.colon n gs) (n + k) gs rest h fits ∙ m.1),
    )

-- by what is found of its `]]`
to_by : (t : Target) (n : ℕ) (gs rest : List Glyph) (w : Shape) (o : Option ℕ) → Keeps rest (kind_of t)
    → size w ≤ 2 + length gs → to_close (drop n gs) ≡ o → link_with t n (option_map (λ (i : ℕ). n + i) o) gs ≡ Some w
    → (n + 2 ≤ length gs) × (link_with t n (inner_len (kind_of t) n (gs ++ rest)) (gs ++ rest) ≡ Some w)
to_by t n gs rest w None h le c is = cc
to_by t n gs rest w (Some k) h le c is =
    let r = with_stays t n k gs rest w h le c is in
    let fits : n + k + 2 ≤ length gs = r.0 in (
      omega (arith, fits),
      ap (λ (o : Option ℕ). link_with t n o (gs ++ rest))
          (inner_is (kind_of t) n (gs ++ rest) (plain rest (kind_of t) h) ∙ ap (option_map (λ (i : ℕ). n + i)) (close_stays n k gs rest c fits))
          ∙ r.1,
    )

target_by : (o : Option Target) (n : ℕ) (gs rest : List Glyph) (w : Shape) → LeadsBy (Keeps rest) o → size w ≤ 2 + length gs
    → link_to o n gs ≡ Some w → (n + 2 ≤ length gs) × (link_to o n (gs ++ rest) ≡ Some w)
target_by None n gs rest w h le is = cc
target_by (Some t) n gs rest w h le is =
    to_by t n gs rest w (to_close (drop n gs)) h le refl
    (ap (λ (o : Option ℕ). link_with t n o gs) (sym (inner_is (kind_of t) n gs (plain rest (kind_of t) h))) ∙ is)

by_target : (o : Option ℕ) (gs rest : List Glyph) (w : Shape) → target_len gs ≡ o → AimsBy (Keeps rest) o gs → size w ≤ 2 + length gs
    → link_by o gs ≡ Some w → link_by (target_len (gs ++ rest)) (gs ++ rest) ≡ Some w
by_target None gs rest w t h le is = cc
by_target (Some n) gs rest w t h le is =
    let r = target_by (target_of (take n gs)) n gs rest w h le is in
    let fits : n + 2 ≤ length gs = r.0 in
    ap (λ (o : Option ℕ). link_by o (gs ++ rest))
    (place_stays (λ hs. first_is (class.Only 124) hs || begins (codes "]]") hs) (begins (codes "[[")) near_target (near_two 91 91) gs rest n t fits)
    ∙ ap (λ hs. link_to (target_of hs) n (gs ++ rest)) (take-append-le n gs rest (omega (arith, fits)))
    ∙ r.1

-- ---- the link

in_stays : (gs rest : List Glyph) (w : Shape) → AimsBy (Keeps rest) (target_len gs) gs → size w ≤ 2 + length gs → link_in gs ≡ Some w
    → link_in (gs ++ rest) ≡ Some w
unfolding link_in
in_stays gs rest w h le is = by_target (target_len gs) gs rest w refl h le is

leads_as : (P Q : LinkKind → Type 0) → ((k : LinkKind) → P k → Q k) → (o : Option Target) → LeadsBy P o → LeadsBy Q o
leads_as P Q f None h = tt
leads_as P Q f (Some t) h = f (kind_of t) h

aims_as : (P Q : LinkKind → Type 0) → ((k : LinkKind) → P k → Q k) → (o : Option ℕ) (gs : List Glyph) → AimsBy P o gs → AimsBy Q o gs
aims_as P Q f None gs h = tt
aims_as P Q f (Some n) gs h = leads_as P Q f (target_of (take n gs)) h

plain_keeps : (rest : List Glyph) → first_is class.Trail rest ≡ false → (k : LinkKind) → IsPlainKind k → Keeps rest k
plain_keeps rest e Page h = e
plain_keeps rest e Category h = tt
plain_keeps rest e Media h = absurd h

category_keeps : (rest : List Glyph) (k : LinkKind) → IsCategoryKind k → Keeps rest k
category_keeps rest Page h = absurd h
category_keeps rest Category h = tt
category_keeps rest Media h = absurd h

pub if_some : (v : Bool) (o : Option Shape) (w : Shape) → (if v then o else None) ≡ Some w → (v ≡ true) × (o ≡ Some w)
if_some true o w e = (refl, e)
if_some false o w e = cc

kept_stays : (a b : Glyph) (gs rest : List Glyph) (w : Shape) → AimsBy (Keeps rest) (target_len gs) gs → size w ≤ 2 + length gs
    → link_at (a ∷ b ∷ gs) ≡ Some w → link_at (a ∷ b ∷ (gs ++ rest)) ≡ Some w
unfolding link_at
kept_stays a b gs rest w h le is =
    let s = if_some (begins (codes "[[") (a ∷ b ∷ gs)) (link_in gs) w is in
    ap (λ (v : Bool). if v then link_in (gs ++ rest) else None) s.0 ∙ in_stays gs rest w h le s.1

pub link_stays : (a b : Glyph) (gs rest : List Glyph) (w : Shape) → IsPlainLink gs → first_is class.Trail rest ≡ false → size w ≤ 2 + length gs
    → link_at (a ∷ b ∷ gs) ≡ Some w → link_at (a ∷ b ∷ (gs ++ rest)) ≡ Some w
link_stays a b gs rest w h e le is = kept_stays a b gs rest w (aims_as IsPlainKind (Keeps rest) (plain_keeps rest e) (target_len gs) gs h) le is

pub category_stays : (a b : Glyph) (gs rest : List Glyph) (w : Shape) → IsCategoryLink gs → size w ≤ 2 + length gs
    → link_at (a ∷ b ∷ gs) ≡ Some w → link_at (a ∷ b ∷ (gs ++ rest)) ≡ Some w
category_stays a b gs rest w h le is = kept_stays a b gs rest w (aims_as IsCategoryKind (Keeps rest) (category_keeps rest) (target_len gs) gs h) le is
