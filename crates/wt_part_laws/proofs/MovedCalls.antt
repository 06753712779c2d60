-- The stretches of a text that is so many bytes later: all places in its calls are as many later, and nothing else is another one.
use Rattle.std.proofs.Common.{arith, ◌≡◌, ℕ, ◌+◌, ◌-◌, Bool, true, false, Option, Some, None, List, [], ◌∷◌, ◌++◌, map, take, drop, refl, sym, ap, ap₂, ◌∙◌}
use Rattle.std.specs.Prelude.{if◌then◌else◌, slice_index}
use Rattle.std.proofs.lemmas.List.{map-append}
use Rattle.wt_span.specs.declared.form.LexKind.TheVariants.{Chars, CommentLine, Comment, Raw, Include, Hidden, Entity, Opens, Closes, LinkOpen, LinkClose, Pipe, Equals}
use Rattle.wt_span.specs.Bytes.{is_break}
use Rattle.wt_span.specs.Items.{Item}
use Rattle.wt_span.specs.Origins.{OuterCall, Span}
use Rattle.wt_span.specs.Braces.{Member, Members, lexeme, call, none, more, width, width_of_all, listed, PartSign, pipe, equals, sign_of, in_link, signs, PartAt, with_name, parts_between, parts_of}
use Rattle.wt_braces.specs.PartMembers.{part_members}
use Rattle.wt_expand.specs.Targets.{Called, argument, choice, function, page, text, called}
use Rattle.wt_expand.specs.Expansion.{chars, front_braces, back_braces, Reading, part_outputs, target_part, output_of, outputs_of}
use Rattle.wt_expand.specs.PageCalls.{Stretch, own, outer, text_call, outer_at, call_stretches, stretches_of, all_stretches, numbered, outer_calls, text_spans, outer_items}
use Rattle.wt_part_laws.specs.Expanded.{moved_span, moved_place, moved_call, moved_stretch}

later : (d at n : ℕ) → (d + at) + n ≡ d + (at + n)
later d at n = omega arith

-- ---- the parts of a call

moved_sign : ℕ → PartSign → PartSign
moved_sign d (pipe at n) = pipe (d + at) n
moved_sign d (equals at n) = equals (d + at) n

moved_part : ℕ → PartAt → PartAt
moved_part d p = record { from = d + p.from; to = d + p.to; equals_at = moved_place d p.equals_at }

sign_moved : (d at : ℕ) (m : Member) → sign_of m (d + at) ≡ map (moved_sign d) (sign_of m at)
unfolding moved_sign
sign_moved d at (lexeme (Chars, n)) = refl
sign_moved d at (lexeme (CommentLine, n)) = refl
sign_moved d at (lexeme (Comment, n)) = refl
sign_moved d at (lexeme (Raw, n)) = refl
sign_moved d at (lexeme (Include, n)) = refl
sign_moved d at (lexeme (Hidden, n)) = refl
sign_moved d at (lexeme (Entity c, n)) = refl
sign_moved d at (lexeme (Opens, n)) = refl
sign_moved d at (lexeme (Closes, n)) = refl
sign_moved d at (lexeme (LinkOpen, n)) = refl
sign_moved d at (lexeme (LinkClose, n)) = refl
sign_moved d at (lexeme (Pipe, n)) = refl
sign_moved d at (lexeme (Equals, n)) = refl
sign_moved d at (call k ms) = refl

sign_by : (v : Bool) (d at : ℕ) (m : Member) → (if v then [] else sign_of m (d + at)) ≡ map (moved_sign d) (if v then [] else sign_of m at)
sign_by true d at m = refl
sign_by false d at m = sign_moved d at m

signs_moved : (d at : ℕ) (before after : List Member) → signs (d + at) before after ≡ map (moved_sign d) (signs at before after)
signs_moved d at before [] = refl
signs_moved d at before (m ∷ after) =
    let v : Bool = in_link before after in
    ap₂ (λ (xs ys : List PartSign). xs ++ ys) (sign_by v d at m)
    (ap (λ (i : ℕ). signs i (m ∷ before) after) (later d at (width m)) ∙ signs_moved d (at + width m) (m ∷ before) after)
    ∙ sym (map-append (moved_sign d) (if v then [] else sign_of m at) (signs (at + width m) (m ∷ before) after))

name_by : (v : Bool) (d at : ℕ) (p : PartAt) (ps : List PartAt)
    → (if v then record { from = d + p.from; to = d + p.to; equals_at = Some (d + at) } ∷ map (moved_part d) ps
    else record { from = d + p.from; to = d + p.to; equals_at = moved_place d p.equals_at } ∷ map (moved_part d) ps)
    ≡ map (moved_part d) (if v then record { from = p.from; to = p.to; equals_at = Some at } ∷ ps else p ∷ ps)
unfolding moved_part
name_by true d at p ps = refl
name_by false d at p ps = refl

name_moved : (later_part : Bool) (d at : ℕ) (ps : List PartAt) → with_name later_part (d + at) (map (moved_part d) ps) ≡ map (moved_part d) (with_name later_part at ps)
unfolding moved_part
name_moved v d at [] = refl
name_moved v d at (p ∷ ps) = name_by v d at p ps

between_moved : (v : Bool) (d from to : ℕ) (ss : List PartSign) → parts_between v (d + from) (d + to) (map (moved_sign d) ss) ≡ map (moved_part d) (parts_between v from to ss)
unfolding moved_sign moved_part
between_moved v d from to [] = refl
between_moved v d from to (pipe at n ∷ ss) =
    ap (λ (ps : List PartAt). record { from = d + from; to = d + at; equals_at = None } ∷ ps)
    (ap (λ (i : ℕ). parts_between true i (d + to) (map (moved_sign d) ss)) (later d at n) ∙ between_moved true d (at + n) to ss)
between_moved v d from to (equals at n ∷ ss) = ap (with_name v (d + at)) (between_moved v d from to ss) ∙ name_moved v d at (parts_between v from to ss)

parts_moved : (d from : ℕ) (ms : Members) → parts_of (d + from) ms ≡ map (moved_part d) (parts_of from ms)
unfolding parts_of
parts_moved d from ms =
    let to : ℕ = from + width_of_all ms in
    ap₂ (λ (i : ℕ) (ss : List PartSign). parts_between false (d + from) i ss) (later d from (width_of_all ms)) (signs_moved d from [] (listed ms))
    ∙ between_moved false d from to (signs from [] (listed ms))

spans_so : (d : ℕ) (ps : List PartAt) → map (λ (p : PartAt). (p.from, p.to)) (map (moved_part d) ps) ≡ map (moved_span d) (map (λ (p : PartAt). (p.from, p.to)) ps)
unfolding moved_part
spans_so d [] = refl
spans_so d (p ∷ ps) = ap (λ (ss : List Span). (d + p.from, d + p.to) ∷ ss) (spans_so d ps)

names_so : (d : ℕ) (ps : List PartAt) → map (λ (p : PartAt). p.equals_at) (map (moved_part d) ps) ≡ map (moved_place d) (map (λ (p : PartAt). p.equals_at) ps)
unfolding moved_part
names_so d [] = refl
names_so d (p ∷ ps) = ap (λ (ss : List (Option ℕ)). moved_place d p.equals_at ∷ ss) (names_so d ps)

outer_moved : (d at k : ℕ) (source : List ℕ) (ms : Members) (c : Called) → outer_at (d + at) k source ms c ≡ moved_call d (outer_at at k source ms c)
outer_moved d at k source ms c =
    let own_call : OuterCall = outer_at at k source ms c in
    let e : parts_of ((d + at) + k) ms ≡ map (moved_part d) (parts_of (at + k) ms) = ap (λ (i : ℕ). parts_of i ms) (later d at k) ∙ parts_moved d (at + k) ms in
    ap₂ (λ (ps : List Span) (es : List (Option ℕ)). record own_call { start = d + at; parts = ps; equals = es })
    (ap (map (λ (p : PartAt). (p.from, p.to))) e ∙ spans_so d (parts_of (at + k) ms)) (ap (map (λ (p : PartAt). p.equals_at)) e ∙ names_so d (parts_of (at + k) ms))

-- ---- stretches

call_moved : (c : Called) (d at k : ℕ) (source : List ℕ) (ms : Members) (given : List Item) (inside was : List Stretch) → inside ≡ map (moved_stretch d) was
    → call_stretches c (d + at) k source ms given inside ≡ map (moved_stretch d) (call_stretches c at k source ms given was)
call_moved argument d at k source ms given inside was e = ap (λ (o : OuterCall). outer o given ∷ []) (outer_moved d at k source ms argument)
call_moved (choice f n) d at k source ms given inside was e = ap (λ (o : OuterCall). outer o given ∷ []) (outer_moved d at k source ms (choice f n))
call_moved function d at k source ms given inside was e = refl
call_moved (page t) d at k source ms given inside was e = ap (λ (o : OuterCall). outer o given ∷ []) (outer_moved d at k source ms (page t))
call_moved text d at k source ms given inside was e =
    ap₂ (λ (i : ℕ) (ss : List Stretch). text_call (d + at, i) ∷ (own (chars (front_braces k source)) ∷ (ss ++ own (chars (back_braces k source)) ∷ [])))
    (later d at (k + width_of_all ms + k)) e
    ∙ ap (λ ss. text_call (moved_span d (at, at + (k + width_of_all ms + k))) ∷ (own (chars (front_braces k source)) ∷ ss))
    (sym (map-append (moved_stretch d) was (own (chars (back_braces k source)) ∷ [])))

mutual
  one_moved : (r : Reading) (d at : ℕ) (s : Bool) (bs : List ℕ) (m : Member) → stretches_of r (d + at) s bs m ≡ map (moved_stretch d) (stretches_of r at s bs m)
  one_moved r d at s bs (lexeme w) = refl
  one_moved r d at s bs (call k ms) =
      let source : List ℕ = take (k + width_of_all ms + k) bs in
      let target = target_part (part_outputs (part_members 0 ms) (outputs_of r false (drop k bs) ms)) in
      call_moved (called k source target.items) d at k source ms (output_of r s bs (call k ms)).items (all_stretches r ((d + at) + k) false (drop k bs) ms)
      (all_stretches r (at + k) false (drop k bs) ms)
      (ap (λ (i : ℕ). all_stretches r i false (drop k bs) ms) (later d at k) ∙ all_moved r d (at + k) false (drop k bs) ms)

  pub all_moved : (r : Reading) (d at : ℕ) (s : Bool) (bs : List ℕ) (ms : Members) → all_stretches r (d + at) s bs ms ≡ map (moved_stretch d) (all_stretches r at s bs ms)
  all_moved r d at s bs none = refl
  all_moved r d at s bs (more m ms) =
      let b : Bool = is_break (slice_index bs (width m - 1)) in
      ap₂ (λ (ss ts : List Stretch). ss ++ ts) (one_moved r d at s bs m)
      (ap (λ (i : ℕ). all_stretches r i b (drop (width m) bs) ms) (later d at (width m)) ∙ all_moved r d (at + width m) b (drop (width m) bs) ms)
      ∙ sym (map-append (moved_stretch d) (stretches_of r at s bs m) (all_stretches r (at + width m) b (drop (width m) bs) ms))

-- ---- what they have

items_moved : (k d : ℕ) (c : OuterCall) (xs : List Item) → outer_items k (moved_call d c) xs ≡ outer_items k c xs
items_moved k d c [] = refl
items_moved k d c (x ∷ xs) = refl

pub numbered_moved : (k d : ℕ) (ss : List Stretch) → numbered k (map (moved_stretch d) ss) ≡ numbered k ss
numbered_moved k d [] = refl
numbered_moved k d (own xs ∷ ss) = ap (λ ys. xs ++ ys) (numbered_moved k d ss)
numbered_moved k d (outer c xs ∷ ss) = ap₂ (λ (ys zs : List Item). ys ++ zs) (items_moved k d c xs) (numbered_moved _ d ss)
numbered_moved k d (text_call s ∷ ss) = numbered_moved k d ss

pub outers_moved : (d : ℕ) (ss : List Stretch) → outer_calls (map (moved_stretch d) ss) ≡ map (moved_call d) (outer_calls ss)
outers_moved d [] = refl
outers_moved d (own xs ∷ ss) = outers_moved d ss
outers_moved d (outer c xs ∷ ss) = ap (λ (cs : List OuterCall). moved_call d c ∷ cs) (outers_moved d ss)
outers_moved d (text_call s ∷ ss) = outers_moved d ss

pub spans_moved : (d : ℕ) (ss : List Stretch) → text_spans (map (moved_stretch d) ss) ≡ map (moved_span d) (text_spans ss)
spans_moved d [] = refl
spans_moved d (own xs ∷ ss) = spans_moved d ss
spans_moved d (outer c xs ∷ ss) = spans_moved d ss
spans_moved d (text_call s ∷ ss) = ap (λ (us : List Span). moved_span d s ∷ us) (spans_moved d ss)
