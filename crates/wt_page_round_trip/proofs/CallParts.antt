-- What is carried of an outermost call of a page in UTF-8: its texts are UTF-8.
use Rattle.std.proofs.Common.{◌≡◌, ℕ, ◌+◌, ◌-◌, ◌<◌, ◌≤◌, ◌^◌, Bool, true, false, Option, Some, None, List, [], ◌∷◌, length, drop, decimal, IsUtf8, refl, subst, arith}
use Rattle.std.specs.Prelude.{fold, reverse, slice_index, if◌then◌else◌}
use Rattle.std.specs.BTreeMap.{insert_entry}
use Rattle.std.specs.Cmp.Lexicographic.{slice_cmp}
use Rattle.std.specs.List.{AllByRecursion, prefix_len}
use Rattle.std.specs.Ordering.{nat_cmp, match_ordering}
use Rattle.std.specs.Str.{IsCharBoundary}
use Rattle.std.specs.declared.cmp.Ordering.{Ordering}
use Rattle.std.specs.declared.cmp.Ordering.TheVariants.{Less, Equal, Greater}
use Rattle.std.proofs.lemmas.Fmt.{IsAscii-decimal}
use Rattle.std.proofs.lemmas.Str.{IsUtf8-nil, IsUtf8-take, IsUtf8-drop, IsUtf8-between, IsUtf8-from_ascii, IsCharBoundary-after_ascii}
use Rattle.json.proofs.Printed.Utf8.{IsUtf8-are_ascii}
use Rattle.wt_tree.specs.declared.node.Part.TheVariants as part
use Rattle.wt_span.specs.declared.function.Function.{Function}
use Rattle.wt_span.specs.declared.function.Function.TheVariants.{If, IfEq, Switch}
use Rattle.wt_span.specs.Functions.{name_of}
use Rattle.wt_span.specs.Origins.{Span, OuterCall, IsBorder, LieFrom, IsNameEnd, AreNameEnds}
use Rattle.wt_schema.specs.Written.{IsUtf8IfAny}
use Rattle.wt_call_data.specs.CallData.{Param, is_white, without_lead, trimmed, source_slice, param_by, next_number, params_from, put_param, params_of, text_or_none, target_by, function_named, braces_part, call_part}
use Rattle.wt_call_data.proofs.CallTexts.{lead_border, tail_border}
use Rattle.wt_call_data.proofs.Params.{names_ascend}
use Rattle.wt_page_round_trip.specs.GroupTexts.{IsPageCall}
use Rattle.wt_page_round_trip.proofs.GroupJson.{IsFunctionName, IsTextParam, IsTextPart}

-- ---- texts

trimmed_utf8 : (bs : List ℕ) → IsUtf8 bs → IsUtf8 (trimmed bs)
unfolding trimmed
trimmed_utf8 bs u =
    let lead : List ℕ = without_lead bs in
    let v : IsUtf8 lead = IsUtf8-drop bs (prefix_len is_white bs) u (lead_border bs u) in
    IsUtf8-take lead (length lead - prefix_len is_white (reverse lead)) v (tail_border lead)

slice_utf8 : (c : OuterCall) (from to : ℕ) → IsUtf8 c.source → from ≤ to → IsBorder c from → IsBorder c to → IsUtf8 (source_slice c from to)
slice_utf8 c from to u l f t = IsUtf8-between c.source (from - c.start) (to - c.start) u (omega (arith, l)) f t

-- ---- parameters

-- a part in its call
abbrev LiesIn : OuterCall → Span → Type 0
LiesIn c p = (c.start ≤ p.0) × (p.0 ≤ p.1) × (p.1 ≤ c.start + length c.source) × IsBorder c p.0 × IsBorder c p.1

lie_up : (c : OuterCall) (from : ℕ) (ps : List Span) → LieFrom c from ps → from ≤ c.start + length c.source
lie_up c from [] h = h
lie_up c from (p ∷ ps) h = let u = lie_up c p.1 ps h.4 in omega (arith, h.0, h.1, u)

-- a sign of one byte in a part: the call can be cut before and behind it
sign_before : (c : OuterCall) (place : ℕ) → c.start ≤ place → place < c.start + length c.source → slice_index c.source (place - c.start) ≡ 61 → IsBorder c place
sign_before c place low high e = (omega (arith, low, high), λ s f. absurd (omega (arith, e, f)))

sign_behind : (c : OuterCall) (place : ℕ) → IsUtf8 c.source → c.start ≤ place → place < c.start + length c.source
    → slice_index c.source (place - c.start) ≡ 61 → IsBorder c (place + 1)
sign_behind c place u low high e =
    let same : place - c.start + 1 ≡ place + 1 - c.start = omega (arith, low) in
    subst (IsCharBoundary c.source) same (IsCharBoundary-after_ascii c.source (place - c.start) u (omega (arith, low, high)) (omega (arith, e)))

param_text : (c : OuterCall) (n : ℕ) (p : Span) (e : Option ℕ) → IsUtf8 c.source → n + 1 < 2 ^ 64 → LiesIn c p → IsNameEnd c p e
    → IsTextParam (param_by c n p e)
unfolding param_by
param_text c n p None u l i h = (
  IsUtf8-from_ascii (decimal (n + 1)) (IsAscii-decimal (n + 1) l),
  slice_utf8 c p.0 p.1 u i.1 i.3 i.4,
)
param_text c n p (Some place) u l i h =
    let low : c.start ≤ place = omega (arith, i.0, h.0) in
    let high : place < c.start + length c.source = omega (arith, i.2, h.1) in (
      trimmed_utf8 (source_slice c p.0 place) (slice_utf8 c p.0 place u h.0 i.3 (sign_before c place low high h.2)),
      trimmed_utf8 (source_slice c (place + 1) p.1) (slice_utf8 c (place + 1) p.1 u (omega (arith, h.1)) (sign_behind c place u low high h.2) i.4),
    )

next_most : (n : ℕ) (e : Option ℕ) → next_number n e ≤ n + 1
next_most n None = omega arith
next_most n (Some place) = omega arith

params_text : (c : OuterCall) (n from : ℕ) (ps : List Span) (es : List (Option ℕ)) → IsUtf8 c.source → n + length ps < 2 ^ 64 → c.start ≤ from
    → LieFrom c from ps → AreNameEnds c ps es → AllByRecursion IsTextParam (params_from c n ps es)
params_text c n from [] es u l s h e = tt
params_text c n from (p ∷ ps) [] u l s h e = tt
params_text c n from (p ∷ ps) (x ∷ es) u l s h e =
    let m = next_most n x in (
      param_text c n p x u (omega (arith, l)) (omega (arith, s, h.0), h.1, lie_up c p.1 ps h.4, h.2, h.3) e.0,
      params_text c (next_number n x) p.1 ps es u (omega (arith, l, m)) (omega (arith, s, h.0, h.1)) h.4 e.1,
    )

behind_target : (c : OuterCall) (ps : List Span) (es : List (Option ℕ)) → IsUtf8 c.source → length ps < 2 ^ 64 → LieFrom c c.start ps
    → AreNameEnds c ps es → AllByRecursion IsTextParam (params_from c 0 (drop 1 ps) (drop 1 es))
behind_target c [] es u l h e = tt
behind_target c (p ∷ ps) [] u l h e = absurd e
behind_target c (p ∷ ps) (x ∷ es) u l h e = params_text c 0 p.1 ps es u (omega (arith, l)) (omega (arith, h.0, h.1)) h.4 e.1

match_texts : (o : Ordering) (a b c : List Param) → AllByRecursion IsTextParam a → AllByRecursion IsTextParam b → AllByRecursion IsTextParam c
    → AllByRecursion IsTextParam (match_ordering o a b c)
match_texts Less a b c e f g = e
match_texts Equal a b c e f g = f
match_texts Greater a b c e f g = g

put_text : (p : Param) (es : List Param) → IsTextParam p → AllByRecursion IsTextParam es
    → AllByRecursion IsTextParam (insert_entry (slice_cmp nat_cmp) es p.0 p.1)
put_text p [] h k = (h, tt)
put_text p (e ∷ es) h k =
    match_texts (slice_cmp nat_cmp p.0 e.0) (p ∷ e ∷ es) ((e.0, p.1) ∷ es) (e ∷ insert_entry (slice_cmp nat_cmp) es p.0 p.1) (h, k)
    ((k.0.0, h.1), k.1) (k.0, put_text p es h k.1)

all_put : (ps acc : List Param) → AllByRecursion IsTextParam ps → AllByRecursion IsTextParam acc → AllByRecursion IsTextParam (fold put_param acc ps)
all_put [] acc h k = k
all_put (p ∷ ps) acc h k = all_put ps (put_param acc p) h.1 (put_text p acc h.0 k)

params_are_texts : (c : OuterCall) → IsPageCall c → AllByRecursion IsTextParam (params_of c)
params_are_texts c h =
    all_put (params_from c 0 (drop 1 c.parts) (drop 1 c.equals)) []
    (behind_target c c.parts c.equals h.source h.few h.sound.in_order h.sound.name_ends) tt

-- ---- the whole call

target_text : (c : OuterCall) (ps : List Span) → IsUtf8 c.source → LieFrom c c.start ps → IsUtf8 (target_by c ps)
target_text c [] u h = IsUtf8-nil
target_text c (p ∷ ps) u h = slice_utf8 c p.0 p.1 u h.1 h.2 h.3

link_text : (link : Option (List ℕ)) → IsUtf8IfAny link → IsUtf8 (text_or_none link)
link_text None h = IsUtf8-nil
link_text (Some bs) h = h

name_text : (f : Function) → IsFunctionName (name_of f)
name_text If = (IsUtf8-are_ascii (name_of If) refl, refl)
name_text IfEq = (IsUtf8-are_ascii (name_of IfEq) refl, refl)
name_text Switch = (IsUtf8-are_ascii (name_of Switch) refl, refl)

pub call_text : (c : OuterCall) (i : ℕ) → IsPageCall c → i < 2 ^ 32 → IsTextPart (call_part c i)
unfolding call_part
call_text c i h l = by_kind c.argument (function_named c)
  where
    by_kind : (b : Bool) (f : Option (Function × ℕ)) → IsTextPart (if b then part.Param c.source else braces_part c i f)
    by_kind true f = h.source
    by_kind false None = (
      target_text c c.parts h.source h.sound.in_order,
      link_text c.href h.link,
      params_are_texts c h,
      names_ascend c,
      l,
    )
    by_kind false (Some (f, n)) = (name_text f, target_text c c.parts h.source h.sound.in_order, params_are_texts c h, names_ascend c, l)
