-- Lines without a line break, and pieces of such.
use Rattle.std.proofs.Common.{◌≡◌, ◌<◌, ◌≤◌, inl, inr, ℕ, zero, suc, ◌+◌, Bool, true, false, List, [], ◌∷◌, ◌++◌, length, take, drop, map, refl, sym, ap, ◌∙◌, subst, cond, arith, Option}
use Rattle.std.specs.Prelude.{All, not, ◌==◌, ◌&&◌, codes}
use Rattle.std.specs.List.{prefix_len}
use Rattle.std.proofs.lemmas.Bool.Decides.{nat_tests}
use Rattle.std.proofs.lemmas.List.Elements.{All-head, All-tail}
use Rattle.wt_span.specs.declared.form.ItemForm.{ItemForm}
use Rattle.wt_span.specs.declared.form.ItemForm.TheVariants as form
use Rattle.wt_span.specs.declared.form.Piece.{Piece}
use Rattle.wt_span.specs.Slice.{bytes_of}
use Rattle.wt_span.specs.Whole.{IsWhole}
use Rattle.wt_span.specs.Bytes.{begins, is_blank}
use Rattle.wt_span.specs.Items.{Item, char, whole, sign, items, items_of, items_by, call_of_origin}
use Rattle.wt_span.specs.Origins.{IsSoundPiece}
use Rattle.wt_span.specs.Runs.{IsRun, AreRuns}
use Rattle.wt_span.proofs.RunLaws.{runs_are}
use Rattle.wt_lines.specs.Lines.{is_break_item, IsUnbroken, goes_on, full_lines, content}
use Rattle.wt_lines.specs.declared.kind.LineKind.{LineKind}
use Rattle.wt_lines.specs.declared.kind.LineKind.TheVariants as kind
use Rattle.wt_lines.specs.Kinds.{past, is_idle}
use Rattle.wt_lines.specs.Pieces.{no_break, is_chars, IsPartedBy, AllParted}
use Rattle.wt_tiles.specs.Glyphs.{glyph_of}
use Rattle.wt_tiles.specs.Edges.{is_low, low_at}
use Rattle.wt_tiles.specs.Cutting.{IsEdgeIn}
use Rattle.wt_page.specs.Rows.{signs, idle_len, dashes}
use Rattle.wt_rows.specs.declared.front.Front.TheVariants as front
use Rattle.wt_rows.specs.Building.{IsTableLine, IsIdleCut}
use Rattle.wt_rows.specs.Fronts.{front_len, IsFrontCut}
use Rattle.wt_rows.proofs.KindSigns.{Tells, past_idle}
use Rattle.wt_page.proofs.LowSigns.{form_low}

-- ---- what stands on a line holds no line break

not_true : (b : Bool) → not b ≡ true → b ≡ false
not_true true e = absurd cc
not_true false e = refl

unbroken_one : (x : Item) (v : Bool) → is_break_item x ≡ v → IsUnbroken (cond v [] (x ∷ []))
unbroken_one x true e = tt
unbroken_one x false e = (e, tt)

run_unbroken : (l others : List Item) → IsRun goes_on l others → IsUnbroken (content l)
run_unbroken [] others h = absurd h
run_unbroken (x ∷ []) others h = unbroken_one x (is_break_item x) refl
run_unbroken (x ∷ y ∷ ys) others h = (not_true (is_break_item x) h.0, run_unbroken (y ∷ ys) others h.1)

pub line_unbroken : (xs l : List Item) (ls : List (List Item)) → full_lines xs ≡ l ∷ ls → IsUnbroken (content l)
line_unbroken xs l ls e =
    let h : AreRuns goes_on (l ∷ ls) xs = subst (λ (rs : List (List Item)). AreRuns goes_on rs xs) e (runs_are goes_on xs) in
    run_unbroken l h.0 h.2

pub unbroken_drop : (n : ℕ) (xs : List Item) → IsUnbroken xs → IsUnbroken (drop n xs)
unbroken_drop zero xs h = h
unbroken_drop (suc n) [] h = h
unbroken_drop (suc n) (x ∷ xs) h = unbroken_drop n xs h.1

pub unbroken_take : (n : ℕ) (xs : List Item) → IsUnbroken xs → IsUnbroken (take n xs)
unbroken_take zero xs h = tt
unbroken_take (suc n) [] h = h
unbroken_take (suc n) (x ∷ xs) h = (h.0, unbroken_take n xs h.1)

unbroken_front : (xs ys : List Item) → IsUnbroken (xs ++ ys) → IsUnbroken xs
unbroken_front [] ys h = tt
unbroken_front (x ∷ xs) ys h = (h.0, unbroken_front xs ys h.1)

unbroken_back : (xs ys : List Item) → IsUnbroken (xs ++ ys) → IsUnbroken ys
unbroken_back [] ys h = h
unbroken_back (x ∷ xs) ys h = unbroken_back xs ys h.1

no_break_in : (o : Option ℕ) (bs : List ℕ) → IsUnbroken (map (char o) bs) → no_break bs ≡ true
no_break_in o [] h = refl
no_break_in o (b ∷ bs) h = rw h.0 (no_break_in o bs h.1)

parted_by : (f : ItemForm) (o : Option ℕ) (bs : List ℕ) → IsWhole f bs → IsUnbroken (items_by f o bs) → IsPartedBy (is_chars f) bs
parted_by form.Chars o bs w h = inr (w, no_break_in o bs h)
parted_by (form.Entity c) o bs w h = tt
parted_by form.Nowiki o bs w h = tt
parted_by form.Extension o bs w h = tt
parted_by form.Function o bs w h = tt
parted_by form.Comment o bs w h = tt
parted_by form.Include o bs w h = tt
parted_by form.Hidden o bs w h = tt
parted_by form.EmptyCall o bs w h = tt

pub unbroken_parted : (ps : List Piece) → All IsSoundPiece ps → IsUnbroken (items ps) → AllParted ps
unbroken_parted [] s h = tt
unbroken_parted (p ∷ ps) s h = (
  parted_by p.form (call_of_origin p.origin) (bytes_of p.text) (All-head IsSoundPiece p ps s).whole (unbroken_front (items_of p) (items ps) h),
  unbroken_parted ps (All-tail IsSoundPiece p ps s) (unbroken_back (items_of p) (items ps) h),
)

-- ---- where signs stand, a line may be cut

low_sign : (x : Item) → sign x < 128 → is_low (glyph_of x) ≡ true
low_sign (char o b) h = let k : b < 128 = h in grind (arith, nat_tests)
low_sign (whole f o bs) h = form_low f

-- the first sign behind so many items
low_behind : (n : ℕ) (xs : List Item) (s : ℕ) (ss : List ℕ) → signs (drop n xs) ≡ s ∷ ss → s < 128 → low_at (map glyph_of xs) n ≡ true
low_behind zero [] s ss e h = absurd cc
low_behind zero (x ∷ xs) s ss e h = let k : sign x ≡ s = cc in low_sign x (omega (arith, k, h))
low_behind (suc n) [] s ss e h = absurd cc
low_behind (suc n) (x ∷ xs) s ss e h = low_behind n xs s ss e h

pub edge_behind : (n : ℕ) (xs : List Item) (s : ℕ) (ss : List ℕ) → signs (drop n xs) ≡ s ∷ ss → s < 128 → IsEdgeIn xs n
edge_behind n xs s ss e h = inr (inl (low_behind n xs s ss e h))

first_passes : (v : Bool) (m : ℕ) → 0 < cond v (1 + m) 0 → v ≡ true
first_passes true m h = refl
first_passes false m h = absurd (omega arith)

rest_passes : (v : Bool) (m k : ℕ) → suc k < cond v (1 + m) 0 → k < m
rest_passes true m k h = omega (arith, h)
rest_passes false m k h = absurd (omega (arith, h))

prefix_low : (test : ℕ → Bool) → ((s : ℕ) → test s ≡ true → s < 128) → (xs : List Item) (k : ℕ) → k < prefix_len test (signs xs)
    → low_at (map glyph_of xs) k ≡ true
prefix_low test low [] k h = absurd (omega arith)
prefix_low test low (x ∷ xs) zero h = low_sign x (low (sign x) (first_passes (test (sign x)) (prefix_len test (signs xs)) h))
prefix_low test low (x ∷ xs) (suc k) h = prefix_low test low xs k (rest_passes (test (sign x)) (prefix_len test (signs xs)) k h)

before_low : (xs : List Item) (n : ℕ) → 0 < n → ((k : ℕ) → k < n → low_at (map glyph_of xs) k ≡ true) → IsEdgeIn xs n
before_low xs zero s h = absurd (omega arith)
before_low xs (suc k) s h = inr (inr (h k (omega arith)))

dash_low : (s : ℕ) → (s == 45) ≡ true → s < 128
dash_low s e = grind (arith, nat_tests)

pub dashes_edge : (xs : List Item) → 0 < dashes xs → IsEdgeIn xs (dashes xs)
dashes_edge xs s = before_low xs (dashes xs) s (λ k l. prefix_low (λ t. t == 45) dash_low xs k l)

blank_low : (s : ℕ) → is_blank s ≡ true → s < 128
blank_low s e = grind (arith, nat_tests)

pub blanks_edge : (xs : List Item) → IsFrontCut front.Blanks xs
blanks_edge xs s = before_low xs (front_len front.Blanks xs) s (λ k l. prefix_low is_blank blank_low xs k l)

-- ---- the first signs of lines of tables

and_left : (u t : Bool) → (u && t) ≡ true → u ≡ true
and_left true t e = refl
and_left false t e = absurd cc

and_right : (u t : Bool) → (u && t) ≡ true → t ≡ true
and_right true t e = e
and_right false t e = absurd cc

same_sign : (a b : ℕ) → (a == b) ≡ true → a ≡ b
same_sign a b e = grind (arith, nat_tests)

first_sign : (c : ℕ) (w ss : List ℕ) → begins (c ∷ w) ss ≡ true → (rest : List ℕ) × (ss ≡ c ∷ rest) × (begins w rest ≡ true)
first_sign c w [] e = absurd cc
first_sign c w (a ∷ ss) e = (ss, ap (λ b. b ∷ ss) (sym (same_sign c a (and_left (c == a) (begins w ss) e))), and_right (c == a) (begins w ss) e)

pub idle_edge : (xs : List Item) (c : ℕ) (w : List ℕ) → c < 128 → begins (c ∷ w) (past is_idle (signs xs)) ≡ true → IsIdleCut xs
idle_edge xs c w l e some =
    let f = first_sign c w (past is_idle (signs xs)) e in edge_behind (idle_len xs) xs c f.0 (sym (past_idle xs) ∙ f.1) l

-- `|}`
two_signs : (ys : List Item) (a b : ℕ) (rest : List ℕ) → signs ys ≡ a ∷ b ∷ rest → b < 128 → (2 ≤ length ys) × IsEdgeIn ys 2
two_signs [] a b rest e l = absurd cc
two_signs (x ∷ []) a b rest e l = absurd cc
two_signs (x ∷ y ∷ ys) a b rest e l =
    let k : sign y ≡ b = cc in (omega arith, inr (inr (low_sign y (omega (arith, k, l)))))

pub end_sign : (xs : List Item) → begins (codes "|}") (past is_idle (signs xs)) ≡ true
    → (2 ≤ length (drop (idle_len xs) xs)) × IsEdgeIn (drop (idle_len xs) xs) 2
end_sign xs e =
    let f = first_sign 124 (125 ∷ []) (past is_idle (signs xs)) e in
    let g = first_sign 125 [] f.0 f.2 in
    two_signs (drop (idle_len xs) xs) 124 125 g.0 (sym (past_idle xs) ∙ f.1 ∙ ap (λ ss. 124 ∷ ss) g.1) (omega arith)

-- before the sign of a line of a table it may be cut
pub idle_cut : (k : LineKind) (xs : List Item) (f : List ℕ) → IsTableLine k → Tells k (past is_idle (signs xs)) f → IsIdleCut xs
idle_cut kind.Blank xs f i h = absurd i
idle_cut kind.TableOpen xs f i h = idle_edge xs 123 (124 ∷ []) (omega arith) h
idle_cut kind.TableEnd xs f i h = absurd i
idle_cut kind.Caption xs f i h = idle_edge xs 124 (43 ∷ []) (omega arith) h
idle_cut kind.Row xs f i h = idle_edge xs 124 (45 ∷ []) (omega arith) h
idle_cut kind.Cell xs f i h = idle_edge xs 124 [] (omega arith) h
idle_cut kind.Header xs f i h = idle_edge xs 33 [] (omega arith) h
idle_cut kind.Heading xs f i h = absurd i
idle_cut kind.Rule xs f i h = absurd i
idle_cut kind.List xs f i h = absurd i
idle_cut kind.Pre xs f i h = absurd i
idle_cut kind.Text xs f i h = absurd i

pub end_cut : (xs : List Item) → begins (codes "|}") (past is_idle (signs xs)) ≡ true → IsIdleCut xs
end_cut xs h = idle_edge xs 124 (125 ∷ []) (omega arith) h
