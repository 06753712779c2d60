-- Items of a page with calls: where the page's own characters are texts in UTF-8, what stands on the page for the items is.
use Rattle.std.proofs.Common.{◌≡◌, ℕ, zero, suc, ◌≤◌, Bool, true, false, Option, Some, None, List, [], ◌∷◌, ◌++◌, length, get_or, IsUtf8, refl, sym, ap, ◌∙◌, subst, cond, arith, append_assoc, append-nil, length-append}
use Rattle.std.specs.Prelude.{slice_get}
use Rattle.std.specs.Str.{IsCharBoundary}
use Rattle.std.proofs.Math.Seq.{get_or-append_seam}
use Rattle.std.proofs.lemmas.Str.{IsUtf8-nil, IsUtf8-append, IsCharBoundary-start}
use Rattle.wt_span.specs.Cuts.{source_of_call}
use Rattle.wt_span.specs.Items.{Item, char, whole, sources}
use Rattle.wt_span.specs.Origins.{OuterCall}
use Rattle.wt_annotated.specs.Seams.{parted, text_from}
use Rattle.wt_page_round_trip.proofs.TextItems.{CanCut, cut_at, cut_end, more_cut}
use Rattle.wt_page_round_trip.specs.GroupTexts.{IsPageCall, ArePageCalls, AreOwnTexts}

-- ---- where items are cut

-- the first byte of a text begins a character
begins : (b : ℕ) (bs : List ℕ) → IsUtf8 (b ∷ bs) → 128 ≤ b → 192 ≤ b
begins b bs u l = (IsCharBoundary-start (b ∷ bs) u).1 (omega arith) l

lead_cut : (r : List ℕ) (b : ℕ) → (128 ≤ b → 192 ≤ b) → CanCut r (b ∷ [])
lead_cut r b h t u =
    let e : get_or (r ++ b ∷ t) (length r) 0 ≡ b = get_or-append_seam r b t 0 in
    let border : IsCharBoundary (r ++ b ∷ t) (length r) =
    (omega (arith, length-append r (b ∷ t)), λ s f. subst (λ (x : ℕ). 192 ≤ x) (sym e) (h (subst (λ (x : ℕ). 128 ≤ x) e f))) in
    cut_at r (b ∷ t) u border

pub shift : (r s : List ℕ) (xs : List Item) → CanCut r s → AreOwnTexts (r ++ s) xs → IsUtf8 r × AreOwnTexts s xs
shift r s [] h t = cut_end r s h t
shift r s (char None b ∷ xs) h t = shift r (s ++ b ∷ []) xs (more_cut r s b h) (subst (λ x. AreOwnTexts x xs) (append_assoc r s (b ∷ [])) t)
shift r s (char (Some k) b ∷ xs) h t = let q = cut_end r s h t.0 in (q.0, (q.1, t.1))
shift r s (whole f None bs ∷ xs) h t = let q = cut_end r s h t.0 in (q.0, (q.1, t.1, t.2))
shift r s (whole f (Some k) bs ∷ xs) h t = let q = cut_end r s h t.0 in (q.0, (q.1, t.1))

-- what is UTF-8 can be cut off from what stands before
cut_before : (run : List ℕ) (ys : List Item) → IsUtf8 (sources ys) → AreOwnTexts run ys → IsUtf8 run × AreOwnTexts [] ys
cut_before run [] u t = (t, IsUtf8-nil)
cut_before run (char None b ∷ ys) u t = shift run (b ∷ []) ys (lead_cut run b (begins b (sources ys) u)) t
cut_before run (char (Some k) b ∷ ys) u t = (t.0, (IsUtf8-nil, t.1))
cut_before run (whole f None bs ∷ ys) u t = (t.0, (IsUtf8-nil, t.1, t.2))
cut_before run (whole f (Some k) bs ∷ ys) u t = (t.0, (IsUtf8-nil, t.1))

pub own_cut : (run : List ℕ) (xs ys : List Item) → IsUtf8 (sources ys) → AreOwnTexts run (xs ++ ys) → AreOwnTexts run xs × AreOwnTexts [] ys
own_cut run [] ys u t = cut_before run ys u t
own_cut run (char None b ∷ xs) ys u t = own_cut (run ++ b ∷ []) xs ys u t
own_cut run (char (Some k) b ∷ xs) ys u t = let q = own_cut [] xs ys u t.1 in ((t.0, q.0), q.1)
own_cut run (whole f None bs ∷ xs) ys u t = let q = own_cut [] xs ys u t.2 in ((t.0, t.1, q.0), q.1)
own_cut run (whole f (Some k) bs ∷ xs) ys u t = let q = own_cut [] xs ys u t.1 in ((t.0, q.0), q.1)

-- ---- where they are joined

own_behind : (run s : List ℕ) (ys : List Item) → IsUtf8 run → AreOwnTexts s ys → AreOwnTexts (run ++ s) ys
own_behind run s [] u t = IsUtf8-append run s u t
own_behind run s (char None b ∷ ys) u t =
    subst (λ r. AreOwnTexts r ys) (sym (append_assoc run s (b ∷ []))) (own_behind run (s ++ b ∷ []) ys u t)
own_behind run s (char (Some k) b ∷ ys) u t = (IsUtf8-append run s u t.0, t.1)
own_behind run s (whole f None bs ∷ ys) u t = (IsUtf8-append run s u t.0, t.1, t.2)
own_behind run s (whole f (Some k) bs ∷ ys) u t = (IsUtf8-append run s u t.0, t.1)

pub own_joined : (run : List ℕ) (xs ys : List Item) → AreOwnTexts run xs → AreOwnTexts [] ys → AreOwnTexts run (xs ++ ys)
own_joined run [] ys h t = subst (λ r. AreOwnTexts r ys) (append-nil run) (own_behind run [] ys h t)
own_joined run (char None b ∷ xs) ys h t = own_joined (run ++ b ∷ []) xs ys h t
own_joined run (char (Some k) b ∷ xs) ys h t = (h.0, own_joined [] xs ys h.1 t)
own_joined run (whole f None bs ∷ xs) ys h t = (h.0, h.1, own_joined [] xs ys h.2 t)
own_joined run (whole f (Some k) bs ∷ xs) ys h t = (h.0, own_joined [] xs ys h.1 t)

-- ---- calls

-- a call, if it is there
abbrev pub IsCallIfAny : Option OuterCall → Type 0
IsCallIfAny None = Unit {0}
IsCallIfAny (Some c) = IsPageCall c

pub call_there : (cs : List OuterCall) (k : ℕ) → ArePageCalls cs → IsCallIfAny (slice_get cs k)
call_there [] zero h = tt
call_there [] (suc k) h = tt
call_there (c ∷ cs) zero h = h.0
call_there (c ∷ cs) (suc k) h = call_there cs k h.1

source_utf8 : (o : Option OuterCall) → IsCallIfAny o → IsUtf8 (source_of_call o)
source_utf8 None h = IsUtf8-nil
source_utf8 (Some c) h = h.source

-- ---- what stands on the page

-- an item of the page itself stands behind a free cut
pub free_before : (o : Option ℕ) → parted o None ≡ true
free_before None = refl
free_before (Some j) = refl

step_utf8 : (v : Bool) (bs : List ℕ) → IsUtf8 bs → IsUtf8 (cond v bs [])
step_utf8 true bs u = u
step_utf8 false bs u = IsUtf8-nil

behind_step : (run step rest : List ℕ) → IsUtf8 run → IsUtf8 step → IsUtf8 rest → IsUtf8 (run ++ (step ++ rest))
behind_step run step rest u v w = IsUtf8-append run (step ++ rest) u (IsUtf8-append step rest v w)

pub text_utf8 : (calls : List OuterCall) → ArePageCalls calls → (o : Option ℕ) (run : List ℕ) (xs : List Item) → AreOwnTexts run xs
    → IsUtf8 (run ++ text_from calls o xs)
text_utf8 calls c o run [] t = subst IsUtf8 (sym (append-nil run)) t
text_utf8 calls c o run (char None b ∷ xs) t =
    let rest : List ℕ = text_from calls None xs in
    let e : (run ++ b ∷ []) ++ rest ≡ run ++ (cond (parted o None) (b ∷ []) [] ++ rest) =
    append_assoc run (b ∷ []) rest ∙ ap (λ v. run ++ (cond v (b ∷ []) [] ++ rest)) (sym (free_before o)) in
    subst IsUtf8 e (text_utf8 calls c None (run ++ b ∷ []) xs t)
text_utf8 calls c o run (char (Some k) b ∷ xs) t =
    behind_step run (cond (parted o (Some k)) (source_of_call (slice_get calls k)) []) (text_from calls (Some k) xs) t.0
    (step_utf8 (parted o (Some k)) (source_of_call (slice_get calls k)) (source_utf8 (slice_get calls k) (call_there calls k c)))
    (text_utf8 calls c (Some k) [] xs t.1)
text_utf8 calls c o run (whole f None bs ∷ xs) t =
    behind_step run (cond (parted o None) bs []) (text_from calls None xs) t.0 (step_utf8 (parted o None) bs t.1) (text_utf8 calls c None [] xs t.2)
text_utf8 calls c o run (whole f (Some k) bs ∷ xs) t =
    behind_step run (cond (parted o (Some k)) (source_of_call (slice_get calls k)) []) (text_from calls (Some k) xs) t.0
    (step_utf8 (parted o (Some k)) (source_of_call (slice_get calls k)) (source_utf8 (slice_get calls k) (call_there calls k c)))
    (text_utf8 calls c (Some k) [] xs t.1)
