-- The outermost calls of an expanded page: their parts lie in order at character borders.
use Rattle.std.proofs.Common.{◌≡◌, ℕ, suc, ◌+◌, ◌-◌, ◌<◌, ◌≤◌, Bool, true, false, Option, Some, None, List, [], ◌∷◌, ◌++◌, length, map, take, drop, refl, sym, ap, ◌∙◌, subst, arith, length-take, length-drop}
use Rattle.std.specs.Prelude.{slice_index, ◌==◌, ◌||◌, not, is_some, if◌then◌else◌, All}
use Rattle.std.specs.Str.{IsUtf8, IsCharBoundary}
use Rattle.std.proofs.lemmas.Str.{IsCharBoundary-before_ascii, IsCharBoundary-after_ascii}
use Rattle.std.proofs.lemmas.List.{drop-drop, get_or-drop}
use Rattle.std.proofs.lemmas.List.Elements.{All-nil, All-cons, All-append}
use Rattle.wt_span.specs.declared.form.Mode.TheVariants as mode
use Rattle.wt_span.specs.declared.form.LexKind.TheVariants.{Equals, Pipe}
use Rattle.wt_span.specs.Bytes.{is_break}
use Rattle.wt_span.specs.declared.function.Function.{Function}
use Rattle.wt_span.specs.Functions.{function_of}
use Rattle.wt_span.specs.Items.{Item}
use Rattle.wt_span.specs.Origins.{OuterCall, Span, IsBorder, LieFrom, IsNameEnd, AreNameEnds, IsSoundCall}
use Rattle.wt_span.specs.Braces.{Member, Members, lexeme, call, none, more, members, listed, width, width_of_all, PartSign, pipe, equals, sign_of, in_link, PartAt, parts_of}
use Rattle.wt_lex.proofs.Fronts.{byte_front}
use Rattle.wt_braces.specs.PartMembers.{PartMembers, joined, rejoined, part_members, split_members, with_member, with_equals, with_sign_of, later_after, placed, width_of, name_width, name_end}
use Rattle.wt_braces.proofs.Rejoins.{parts_join}
use Rattle.wt_transclusion.proofs.PartLaws.{call_places}
use Rattle.wt_transclusion.proofs.StretchLaws.{width_append, members_listed}
use Rattle.wt_expand.specs.Targets.{Called, argument, choice, function, page, text, called, called_by, called_function, is_function, title_of_target}
use Rattle.wt_names.specs.declared.title.Title.{Title}
use Rattle.wt_expand.specs.Work.{Pages}
use Rattle.wt_expand.specs.Expansion.{Reading, chars, target_part, part_outputs, back_braces, output_of, outputs_of, text_members, page_reading}
use Rattle.wt_expand.specs.PageCalls.{Stretch, own, outer, text_call, link_of, outer_at, call_stretches, stretches_of, all_stretches, outer_calls, page_stretches, expanded_page}
use Rattle.wt_expansion.proofs.FunctionSigns.{names_none}
use Rattle.wt_expansion.proofs.SoundMembers.{IsCallHere, IsSoundMember, AreSoundMembers, text_sound, text_width}
use Rattle.wt_expansion.proofs.SoundItems.{stretches_are}

-- ---- borders

-- a border of a text is one of its slices
border_source : (t : List ℕ) (at n p : ℕ) → at ≤ p → p ≤ at + n → at + n ≤ length t → IsCharBoundary t p → IsCharBoundary (take n (drop at t)) (p - at)
border_source t at n p l h w b =
    let i = p - at in
    let z : at + i ≡ p = omega (arith, l) in
    let len : length (take n (drop at t)) ≡ n = omega (arith, length-take n (drop at t), length-drop at t, w) in (
      omega (arith, len, h, l),
      λ s f.
          let y : i < n = omega (arith, s, len) in
          let e : slice_index (take n (drop at t)) i ≡ slice_index t p = byte_front (drop at t) n i y ∙ get_or-drop at t i 0 ∙ ap (slice_index t) z in
          let g : 128 ≤ slice_index t p = subst (λ (x : ℕ). 128 ≤ x) e f in
          subst (λ (x : ℕ). 192 ≤ x) (sym e) (b.1 (omega (arith, y, z, w)) g),
    )

byte_of : (bs t : List ℕ) (at i byte : ℕ) → bs ≡ drop at t → slice_index bs i ≡ byte → slice_index t (at + i) ≡ byte
byte_of bs t at i byte e h = sym (get_or-drop at t i 0) ∙ ap (λ xs. slice_index xs i) (sym e) ∙ h

border_at : (t : List ℕ) (p byte : ℕ) → slice_index t p ≡ byte → byte < 128 → p < length t → IsCharBoundary t p
border_at t p byte e low l = IsCharBoundary-before_ascii t p l (omega (arith, e, low))

border_behind : (t : List ℕ) (p byte : ℕ) → IsUtf8 t → slice_index t p ≡ byte → byte < 128 → p < length t → IsCharBoundary t (p + 1)
border_behind t p byte u e low l = IsCharBoundary-after_ascii t p u l (omega (arith, e, low))

-- ---- members one behind the other

sound_back : (bs : List ℕ) (xs ys : List Member) → AreSoundMembers mode.Page bs (members (xs ++ ys))
    → AreSoundMembers mode.Page (drop (width_of xs) bs) (members ys)
sound_back bs [] ys f = subst (λ cs. AreSoundMembers mode.Page cs (members ys)) (drop_none bs) f
  where
    drop_none : (cs : List ℕ) → cs ≡ drop 0 cs
    drop_none [] = refl
    drop_none (c ∷ cs) = refl
sound_back bs (x ∷ xs) ys f =
    subst (λ cs. AreSoundMembers mode.Page cs (members ys)) (drop-drop (width_of xs) (width x) bs) (sound_back (drop (width x) bs) xs ys f.1)

sound_at : (t : List ℕ) (p : ℕ) (xs ys : List Member) → AreSoundMembers mode.Page (drop p t) (members (xs ++ ys))
    → AreSoundMembers mode.Page (drop (p + width_of xs) t) (members ys)
sound_at t p xs ys f = subst (λ cs. AreSoundMembers mode.Page cs (members ys)) (drop-drop (width_of xs) p t) (sound_back (drop p t) xs ys f)

joined_width : (name : Option (List Member × ℕ)) (value : List Member) → width_of (joined name value) ≡ name_width name + width_of value
joined_width None value = omega arith
joined_width (Some (xs, n)) value = let e = width_append xs (lexeme (Equals, n) ∷ value) in omega (arith, e)

-- ---- parts

abbrev spans : List PartAt → List Span
spans ps = map (λ p. (p.from, p.to)) ps

-- the places of a call in its page
record IsCallIn (t : List ℕ) (c : OuterCall) (n : ℕ) : Type 0 where
  pub utf8 : IsUtf8 t
  pub within : c.start + n ≤ length t
  pub source : c.source ≡ take n (drop c.start t)
  pub wide : length c.source ≡ n

border_in : (t : List ℕ) (c : OuterCall) (n p : ℕ) → IsCallIn t c n → c.start ≤ p → p ≤ c.start + n → IsCharBoundary t p → IsBorder c p
border_in t c n p h l m b = subst (λ bs. IsCharBoundary bs (p - c.start)) (sym h.source) (border_source t c.start n p l m h.within b)

byte_in : (t : List ℕ) (c : OuterCall) (n p byte : ℕ) → IsCallIn t c n → c.start ≤ p → p < c.start + n → slice_index t p ≡ byte
    → slice_index c.source (p - c.start) ≡ byte
byte_in t c n p byte h l m e =
    let i = p - c.start in
    let z : c.start + i ≡ p = omega (arith, l) in
    ap (λ bs. slice_index bs i) h.source ∙ byte_front (drop c.start t) n i (omega (arith, l, m)) ∙ get_or-drop c.start t i 0 ∙ ap (slice_index t) z ∙ e

-- parts that begin at a place behind another one and end with the call's inside
lie_parts : (t : List ℕ) (c : OuterCall) (n : ℕ) → IsCallIn t c n → (ps : List PartMembers) (before p e : ℕ) → c.start ≤ before → before ≤ p
    → IsCharBoundary t p → IsCharBoundary t e → e ≤ c.start + n
    → p + width_of (rejoined ps) ≡ e → AreSoundMembers mode.Page (drop p t) (members (rejoined ps)) → LieFrom c before (spans (placed p ps))
lie_parts t c n h [] before p e low l b d m w f = let y = h.wide in omega (arith, l, m, w, y)
lie_parts t c n h (q ∷ []) before p e low l b d m w f =
    let to : ℕ = p + (name_width q.name + width_of q.value) in
    let z : to ≡ e = let y = joined_width q.name q.value in omega (arith, y, w) in
    let y = h.wide in (
      l,
      omega arith,
      border_in t c n p h (omega (arith, low, l)) (omega (arith, m, w)) b,
      border_in t c n to h (omega (arith, low, l)) (omega (arith, z, m)) (subst (IsCharBoundary t) (sym z) d),
      omega (arith, z, m, y),
    )
lie_parts t c n h (q ∷ r ∷ ps) before p e low l b d m w f =
    let xs = joined q.name q.value in
    let rest = rejoined (r ∷ ps) in
    let to : ℕ = p + (name_width q.name + width_of q.value) in
    let wide = joined_width q.name q.value in
    let z : p + width_of xs ≡ to = omega (arith, wide) in
    let sum = width_append xs (lexeme (Pipe, q.bar) ∷ rest) in
    let here = subst (λ k. AreSoundMembers mode.Page (drop k t) (members (lexeme (Pipe, q.bar) ∷ rest))) z (sound_at t p xs (lexeme (Pipe, q.bar) ∷ rest) f) in
    let bar = here.0.sign in
    let byte : slice_index t (to + 0) ≡ 124 = byte_of (drop to t) t to 0 124 refl bar.1 in
    let at : slice_index t to ≡ 124 = let y : to + 0 ≡ to = omega arith in subst (λ k. slice_index t k ≡ 124) y byte in
    let inside : to < length t = let y = h.within in let x = bar.0 in omega (arith, sum, z, w, m, y, x) in
    let one : to + 1 ≡ to + q.bar = let x = bar.0 in omega (arith, x) in
    let next = subst (IsCharBoundary t) one (border_behind t to 124 h.utf8 at (omega arith) inside) in
    let later = subst (λ bs. AreSoundMembers mode.Page bs (members rest)) (drop-drop q.bar to t) here.1 in (
      l,
      omega arith,
      border_in t c n p h (omega (arith, low, l)) (omega (arith, m, w)) b,
      border_in t c n to h (omega (arith, low, l)) (omega (arith, sum, z, w, m)) (border_at t to 124 at (omega arith) inside),
      lie_parts t c n h (r ∷ ps) to (to + q.bar) e (omega (arith, low, l)) (omega arith) next d m (omega (arith, sum, z, w)) later,
    )

name_ends : (t : List ℕ) (c : OuterCall) (n : ℕ) → IsCallIn t c n → (p e : ℕ) (name : Option (List Member × ℕ)) (value : List Member) → c.start ≤ p
    → e ≤ c.start + n
    → p + width_of (joined name value) ≤ e → AreSoundMembers mode.Page (drop p t) (members (joined name value))
    → IsNameEnd c (p, p + (name_width name + width_of value)) (name_end p name)
name_ends t c n h p e None value low m w f = tt
name_ends t c n h p e (Some (xs, k)) value low m w f =
    let sign = sound_at t p xs (lexeme (Equals, k) ∷ value) f in
    let eq = sign.0.sign in
    let one = eq.0 in
    let place : ℕ = p + width_of xs in
    let wide = width_append xs (lexeme (Equals, k) ∷ value) in
    let byte : slice_index t (place + 0) ≡ 61 = byte_of (drop place t) t place 0 61 refl eq.1 in
    let at : slice_index t place ≡ 61 = let y : place + 0 ≡ place = omega arith in subst (λ i. slice_index t i ≡ 61) y byte in
    (omega arith, omega (arith, one), byte_in t c n place 61 h (omega (arith, low)) (omega (arith, m, w, wide, one)) at)

end_parts : (t : List ℕ) (c : OuterCall) (n : ℕ) → IsCallIn t c n → (ps : List PartMembers) (p e : ℕ) → c.start ≤ p → e ≤ c.start + n
    → p + width_of (rejoined ps) ≡ e → AreSoundMembers mode.Page (drop p t) (members (rejoined ps))
    → AreNameEnds c (spans (placed p ps)) (map (λ q. q.equals_at) (placed p ps))
end_parts t c n h [] p e low m w f = tt
end_parts t c n h (q ∷ []) p e low m w f = (name_ends t c n h p e q.name q.value low m (omega (arith, w)) f, tt)
end_parts t c n h (q ∷ r ∷ ps) p e low m w f =
    let xs = joined q.name q.value in
    let rest = rejoined (r ∷ ps) in
    let to : ℕ = p + (name_width q.name + width_of q.value) in
    let wide = joined_width q.name q.value in
    let z : p + width_of xs ≡ to = omega (arith, wide) in
    let sum = width_append xs (lexeme (Pipe, q.bar) ∷ rest) in
    let here = subst (λ k. AreSoundMembers mode.Page (drop k t) (members (lexeme (Pipe, q.bar) ∷ rest))) z (sound_at t p xs (lexeme (Pipe, q.bar) ∷ rest) f) in
    let later = subst (λ bs. AreSoundMembers mode.Page bs (members rest)) (drop-drop q.bar to t) here.1 in (
      name_ends t c n h p e q.name q.value low m (omega (arith, sum, w)) (sound_front (drop p t) xs (lexeme (Pipe, q.bar) ∷ rest) f),
      end_parts t c n h (r ∷ ps) (to + q.bar) e (omega (arith, low)) m (omega (arith, sum, z, w)) later,
    )
  where
    sound_front : (bs : List ℕ) (ys zs : List Member) → AreSoundMembers mode.Page bs (members (ys ++ zs)) → AreSoundMembers mode.Page bs (members ys)
    sound_front bs [] zs g = tt
    sound_front bs (y ∷ ys) zs g = (g.0, sound_front (drop (width y) bs) ys zs g.1)

-- ---- some part

some_with : (x : Member) (ps : List PartMembers) → 0 < length ps → 0 < length (with_member x ps)
some_with x [] l = l
some_with x (p ∷ ps) l = omega arith

some_equals : (n : ℕ) (ps : List PartMembers) → 0 < length ps → 0 < length (with_equals n ps)
some_equals n [] l = l
some_equals n (p ∷ ps) l = omega arith

some_sign : (later : Bool) (x : Member) (ss : List PartSign) (ps : List PartMembers) → 0 < length ps → 0 < length (with_sign_of later x ss ps)
some_sign later x [] ps l = some_with x ps l
some_sign later x (pipe at n ∷ ss) ps l = omega arith
some_sign true x (equals at n ∷ ss) ps l = some_equals n ps l
some_sign false x (equals at n ∷ ss) ps l = some_with x ps l

some_split : (later : Bool) (at : ℕ) (before xs : List Member) → 0 < length (split_members later at before xs)
some_split later at before [] = omega arith
some_split later at before (x ∷ xs) =
    let ss = if in_link before xs then [] else sign_of x at in
    some_sign later x ss (split_members (later_after later ss) (at + width x) (x ∷ before) xs)
    (some_split (later_after later ss) (at + width x) (x ∷ before) xs)

placed_len : (p : ℕ) (ps : List PartMembers) → length (spans (placed p ps)) ≡ length ps
placed_len p [] = refl
placed_len p (q ∷ ps) = ap suc (placed_len (p + (name_width q.name + width_of q.value) + q.bar) ps)

-- ---- what it is by its braces and its target

abbrev kind_by : Bool → Bool → Option (Function × ℕ) → Option Title → Called
kind_by t u w o = if t then argument else (if u then called_function w else called_by o)

called_is : (k : ℕ) (source : List ℕ) (target : List Item)
    → called k source target ≡ kind_by (k == 3) (is_function source) (function_of (drop 2 source)) (title_of_target target)
unfolding called
called_is k source target = refl

link_by : (t u : Bool) (w : Option (Function × ℕ)) (o : Option Title) → (u ≡ false → is_some w ≡ false) → (kind_by t u w o ≡ function → ⊥)
    → (kind_by t u w o ≡ text → ⊥) → is_some (link_of (kind_by t u w o)) ≡ not (t || is_some w)
link_by true u w o n f g = refl
link_by false true None o n f g = absurd (f refl)
link_by false true (Some (c, k)) o n f g = refl
link_by false false w None n f g = absurd (g refl)
link_by false false w (Some t) n f g = sym (ap not (n refl))

-- a call without a link that is neither text nor kept as it stands is an argument or a function
linked : (c : Called) (k : ℕ) (source : List ℕ) (target : List Item) → called k source target ≡ c → (c ≡ function → ⊥) → (c ≡ text → ⊥)
    → is_some (link_of c) ≡ not (k == 3 || is_some (function_of (drop 2 source)))
linked c k source target e f g =
    let w = function_of (drop 2 source) in
    let o = title_of_target target in
    let is : kind_by (k == 3) (is_function source) w o ≡ c = sym (called_is k source target) ∙ e in
    subst (λ d. is_some (link_of d) ≡ not (k == 3 || is_some w)) is
    (link_by (k == 3) (is_function source) w o (names_none source) (λ h. f (sym is ∙ h)) (λ h. g (sym is ∙ h)))

-- ---- a call

sound_outer : (t : List ℕ) (at k : ℕ) (ms : Members) (c : Called) → IsUtf8 t → at + (k + width_of_all ms + k) ≤ length t
    → IsCallHere mode.Page (drop at t) k ms → AreSoundMembers mode.Page (drop (at + k) t) ms
    → is_some (link_of c) ≡ not (k == 3 || is_some (function_of (drop 2 (take (k + width_of_all ms + k) (drop at t)))))
    → IsSoundCall (outer_at at k (take (k + width_of_all ms + k) (drop at t)) ms c)
sound_outer t at k ms c u w h f l =
    let n : ℕ = k + width_of_all ms + k in
    let o = outer_at at k (take n (drop at t)) ms c in
    let two = h.two in
    let in_page : IsCallIn t o n = record { utf8 = u; within = w; source = refl; wide = omega (arith, length-take n (drop at t), length-drop at t, w) } in
    let ps = part_members 0 ms in
    let p : ℕ = at + k in
    let e : ℕ = p + width_of_all ms in
    let places : parts_of p ms ≡ placed p ps = call_places p ms in
    let same : members (rejoined ps) ≡ ms = ap members (parts_join 0 ms) ∙ members_listed ms in
    let wide : p + width_of (rejoined ps) ≡ e = ap (λ xs. p + width_of_all xs) same in
    let sound = subst (AreSoundMembers mode.Page (drop p t)) (sym same) f in
    let opening : slice_index t (at + (k - 1)) ≡ 123 = byte_of (drop at t) t at (k - 1) 123 refl h.opening in
    let closing : slice_index t (at + (k + width_of_all ms)) ≡ 125 = byte_of (drop at t) t at (k + width_of_all ms) 125 refl h.closing in
    let begin : IsCharBoundary t p =
    let z : at + (k - 1) + 1 ≡ p = omega (arith, two) in
    subst (IsCharBoundary t) z (border_behind t (at + (k - 1)) 123 u opening (omega arith) (omega (arith, two, w))) in
    let end : IsCharBoundary t e =
    let z : at + (k + width_of_all ms) ≡ e = omega arith in
    subst (IsCharBoundary t) z (border_at t (at + (k + width_of_all ms)) 125 closing (omega arith) (omega (arith, two, w))) in
    let some : 0 < length (spans (placed p ps)) = let y = placed_len p ps in let x = some_split false 0 [] (listed ms) in omega (arith, y, x) in
    record {
      some = let y = in_page.wide in omega (arith, y, two);
      some_part = subst (λ qs. 0 < length (spans qs)) (sym places) some;
      in_order = subst (λ qs. LieFrom o at (spans qs)) (sym places)
          (lie_parts t o n in_page ps at p e (omega arith) (omega arith) begin end (omega arith) wide sound);
      name_ends = subst (λ qs. AreNameEnds o (spans qs) (map (λ q. q.equals_at) qs)) (sym places)
          (end_parts t o n in_page ps p e (omega arith) (omega arith) wide sound);
      linked = l;
    }

-- ---- all calls

pub calls_append : (ss ts : List Stretch) → outer_calls (ss ++ ts) ≡ outer_calls ss ++ outer_calls ts
calls_append [] ts = refl
calls_append (own xs ∷ ss) ts = calls_append ss ts
calls_append (outer c xs ∷ ss) ts = ap (λ cs. c ∷ cs) (calls_append ss ts)
calls_append (text_call s ∷ ss) ts = calls_append ss ts

both_sound : (ss ts : List Stretch) → All IsSoundCall (outer_calls ss) → All IsSoundCall (outer_calls ts) → All IsSoundCall (outer_calls (ss ++ ts))
both_sound ss ts f g = subst (All IsSoundCall) (sym (calls_append ss ts)) (All-append IsSoundCall (outer_calls ss) (outer_calls ts) f g)

sound_call : (c : Called) (at k : ℕ) (source : List ℕ) (target : List Item) (ms : Members) (given : List Item) (inside : List Stretch)
    → called k source target ≡ c
    → ((d : Called) → is_some (link_of d) ≡ not (k == 3 || is_some (function_of (drop 2 source))) → IsSoundCall (outer_at at k source ms d))
    → All IsSoundCall (outer_calls inside) → All IsSoundCall (outer_calls (call_stretches c at k source ms given inside))
sound_call argument at k source target ms given inside e f g =
    All-cons IsSoundCall (outer_at at k source ms argument) [] (f argument (linked argument k source target e (λ h. cc) (λ h. cc))) (All-nil IsSoundCall)
sound_call (choice c n) at k source target ms given inside e f g =
    All-cons IsSoundCall (outer_at at k source ms (choice c n)) [] (f (choice c n) (linked (choice c n) k source target e (λ h. cc) (λ h. cc)))
    (All-nil IsSoundCall)
sound_call function at k source target ms given inside e f g = All-nil IsSoundCall
sound_call (page t) at k source target ms given inside e f g =
    All-cons IsSoundCall (outer_at at k source ms (page t)) [] (f (page t) (linked (page t) k source target e (λ h. cc) (λ h. cc))) (All-nil IsSoundCall)
sound_call text at k source target ms given inside e f g =
    both_sound inside (own (chars (back_braces k source)) ∷ []) g (All-nil IsSoundCall)

mutual
  calls_one : (r : Reading) (t : List ℕ) (at : ℕ) (start : Bool) (bs : List ℕ) (m : Member) → IsUtf8 t → bs ≡ drop at t → at + width m ≤ length t
      → IsSoundMember mode.Page bs m → All IsSoundCall (outer_calls (stretches_of r at start bs m))
  calls_one r t at start bs (lexeme w) u e l f = All-nil IsSoundCall
  calls_one r t at start bs (call k ms) u e l f =
      let os = outputs_of r false (drop k bs) ms in
      let source = take (k + width_of_all ms + k) bs in
      let target = (target_part (part_outputs (part_members 0 ms) os)).items in
      let inside : drop k bs ≡ drop (at + k) t = ap (drop k) e ∙ drop-drop k at t in
      sound_call (called k source target) at k source target ms (output_of r start bs (call k ms)).items (all_stretches r (at + k) false (drop k bs) ms) refl
      (λ d h. subst (λ xs. IsSoundCall (outer_at at k (take (k + width_of_all ms + k) xs) ms d)) (sym e)
      (sound_outer t at k ms d u l (subst (λ xs. IsCallHere mode.Page xs k ms) e f.0) (subst (λ xs. AreSoundMembers mode.Page xs ms) inside f.1)
      (subst (λ xs. is_some (link_of d) ≡ not (k == 3 || is_some (function_of (drop 2 (take (k + width_of_all ms + k) xs))))) e h)))
      (calls_all r t (at + k) false (drop k bs) ms u inside (omega (arith, l)) f.1)

  calls_all : (r : Reading) (t : List ℕ) (at : ℕ) (start : Bool) (bs : List ℕ) (ms : Members) → IsUtf8 t → bs ≡ drop at t → at + width_of_all ms ≤ length t
      → AreSoundMembers mode.Page bs ms → All IsSoundCall (outer_calls (all_stretches r at start bs ms))
  calls_all r t at start bs none u e l f = All-nil IsSoundCall
  calls_all r t at start bs (more m ms) u e l f =
      let next = is_break (slice_index bs (width m - 1)) in
      both_sound (stretches_of r at start bs m) (all_stretches r (at + width m) next (drop (width m) bs) ms)
      (calls_one r t at start bs m u e (omega (arith, l)) f.0)
      (calls_all r t (at + width m) next (drop (width m) bs) ms u (ap (drop (width m)) e ∙ drop-drop (width m) at t) (omega (arith, l)) f.1)

pub page_calls_sound : (pages : Pages) (bs : List ℕ) → IsUtf8 bs → All IsSoundCall (outer_calls (page_stretches pages bs))
page_calls_sound pages bs u =
    let ms = text_members mode.Page bs in
    let wide = text_width mode.Page bs in
    subst (λ ss. All IsSoundCall (outer_calls ss)) (sym (stretches_are pages bs))
    (calls_all (page_reading pages) bs 0 true bs ms u (drop_zero bs) (omega (arith, wide)) (text_sound mode.Page bs))
  where
    drop_zero : (xs : List ℕ) → xs ≡ drop 0 xs
    drop_zero [] = refl
    drop_zero (x ∷ xs) = refl

pub calls_are_sound : (pages : Pages) (bs : List ℕ) → IsUtf8 bs → All IsSoundCall (expanded_page pages bs).outer
unfolding expanded_page
calls_are_sound pages bs u = page_calls_sound pages bs u
