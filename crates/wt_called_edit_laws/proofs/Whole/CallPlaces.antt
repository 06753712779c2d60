-- Each call of a page begins where its first item is: so it is in a part, wherever the calls of the part are counted among those of the page.
use Rattle.std.proofs.Common.{◌≡◌, ℕ, zero, suc, ◌+◌, ◌-◌, ◌<◌, ◌≤◌, Bool, true, false, Option, Some, None, List, [], ◌∷◌, ◌++◌, length, map, take, drop, refl, sym, ap, ◌∙◌, subst, arith, append-nil, length-append, length-take, length-drop}
use Rattle.std.specs.Prelude.{slice_get, slice_index}
use Rattle.std.proofs.lemmas.Bool.Decides.{nat_tests}
use Rattle.wt_span.specs.declared.form.ItemForm.TheVariants as form
use Rattle.wt_span.specs.declared.form.Mode.{Mode}
use Rattle.wt_span.specs.declared.form.Mode.TheVariants as mode
use Rattle.wt_span.specs.Bytes.{is_break}
use Rattle.wt_span.specs.Items.{Item, whole, source, sources, call_of}
use Rattle.wt_span.specs.Lexemes.{words}
use Rattle.wt_span.specs.Origins.{OuterCall, span_of_entry}
use Rattle.wt_span.specs.Cuts.{source_of_call}
use Rattle.wt_span.specs.Braces.{Member, Members, lexeme, call, none, more, members, width, width_of_all, reduced}
use Rattle.wt_braces.specs.PartMembers.{part_members}
use Rattle.wt_transclusion.specs.Stretch.{IsFull, AreFull}
use Rattle.wt_transclusion.proofs.Full.{full_text, text_bytes}
use Rattle.wt_transclusion.proofs.StretchLaws.{full_members}
use Rattle.wt_annotated.specs.Seams.{last_of, parted, text_step, text_from}
use Rattle.wt_expand.specs.PageItems.{form_of}
use Rattle.wt_expand.specs.Targets.{Called, argument, choice, function, page, text, called}
use Rattle.wt_expand.specs.Work.{Pages}
use Rattle.wt_expand.specs.Expansion.{Output, chars, lexeme_items, PartOutput, part_outputs, target_part, Reading, front_braces, back_braces, called_output, outputs_of, text_members, page_reading}
use Rattle.wt_expand.specs.PageCalls.{Stretch, own, outer, text_call, call_stretches, stretches_of, all_stretches, from_call, outer_items, numbered, outer_calls, page_stretches, expanded_page}
use Rattle.wt_expand.proofs.PageLaws.{form_sources, char_sources}
use Rattle.wt_expand.proofs.PiecePlaces.{AllFrom}
use Rattle.wt_part_laws.specs.Expanded.{moved_call, part_items}
use Rattle.wt_text_edit_laws.specs.BlockSpots.{BlockSpot, spots_source}
use Rattle.wt_text_edit_laws.specs.TextBlocks.{source_of}
use Rattle.wt_called_edit_laws.specs.Parts.{AreCalled, calls_to, calls_past, called_outers}
use Rattle.wt_called_edit_laws.proofs.MovedOuters.{moved_twice, moved_still}
use Rattle.wt_called_edit_laws.proofs.PartTexts.{IsBelow, OwnPage, own_page, own_text, outer_text, called_from, below_own, below_outer}
use Rattle.wt_called_edit_laws.proofs.Parts.Retyped.{is_by_parts}

-- ---- stretches fill a text from one place to another, and each call begins where it is, with a source

abbrev Fills : ℕ → List Stretch → ℕ → Type 0
Fills at [] to = at ≡ to
Fills at (own xs ∷ ss) to = Fills (at + length (sources xs)) ss to
Fills at (outer c xs ∷ ss) to = (c.start ≡ at) × (0 < length c.source) × Fills (at + length c.source) ss to
Fills at (text_call s ∷ ss) to = Fills at ss to

fills_both : (ss ts : List Stretch) (at mid to : ℕ) → Fills at ss mid → Fills mid ts to → Fills at (ss ++ ts) to
fills_both [] ts at mid to f g = subst (λ (i : ℕ). Fills i ts to) (sym f) g
fills_both (own xs ∷ ss) ts at mid to f g = fills_both ss ts (at + length (sources xs)) mid to f g
fills_both (outer c xs ∷ ss) ts at mid to f g = (f.0, f.1, fills_both ss ts (at + length c.source) mid to f.2 g)
fills_both (text_call s ∷ ss) ts at mid to f g = fills_both ss ts at mid to f g

fills_call : (c : Called) (r : Reading) (start : Bool) (at k w : ℕ) (source : List ℕ) (ms : Members) (ps : List PartOutput)
    (os : List Output) (inside : List Stretch) → 2 ≤ k → length source ≡ k + w + k → Fills (at + k) inside (at + k + w)
    → Fills at (call_stretches c at k source ms (called_output c r start k source ps os).items inside) (at + (k + w + k))
fills_call argument r start at k w source ms ps os inside t e h = (refl, omega (arith, t, e), ap (λ (i : ℕ). at + i) e)
fills_call (choice f n) r start at k w source ms ps os inside t e h = (refl, omega (arith, t, e), ap (λ (i : ℕ). at + i) e)
fills_call function r start at k w source ms ps os inside t e h = ap (λ (i : ℕ). at + i) (ap length (append-nil source) ∙ e)
fills_call (page p) r start at k w source ms ps os inside t e h = (refl, omega (arith, t, e), ap (λ (i : ℕ). at + i) e)
fills_call text r start at k w source ms ps os inside t e h =
    let first : List ℕ = front_braces k source in
    let last : List ℕ = back_braces k source in
    let one : length first ≡ k = omega (arith, length-take k source, e) in
    let two : length last ≡ k = omega (arith, length-drop (length source - k) source, e) in
    let front : length (sources (chars first)) ≡ k = ap length (char_sources first) ∙ one in
    let back : length (sources (chars last)) ≡ k = ap length (char_sources last) ∙ two in
    let end : at + k + w + length (sources (chars last)) ≡ at + (k + w + k) = omega (arith, back) in
    let rest : Fills (at + k) (inside ++ own (chars last) ∷ []) (at + (k + w + k)) =
    fills_both inside (own (chars last) ∷ []) (at + k) (at + k + w) (at + (k + w + k)) h end in
    subst (λ (i : ℕ). Fills (at + i) (inside ++ own (chars last) ∷ []) (at + (k + w + k))) (sym front) rest

mutual
  fill_one : (r : Reading) (at : ℕ) (start : Bool) (bs : List ℕ) (m : Member) → IsFull m → r.mode ≡ mode.Page → width m ≤ length bs
      → Fills at (stretches_of r at start bs m) (at + width m)
  fill_one r at start bs (lexeme (kind, n)) f e le =
      let size : length (take n bs) ≡ n = omega (arith, length-take n bs, le) in
      ap (λ (i : ℕ). at + i)
      (ap length (ap (λ (x : Mode). sources (lexeme_items x kind (take n bs))) e ∙ form_sources (form_of kind (take n bs)) (take n bs)) ∙ size)
  fill_one r at start bs (call k ms) f e le =
      let os = outputs_of r false (drop k bs) ms in
      let ps = part_outputs (part_members 0 ms) os in
      let w : ℕ = width_of_all ms in
      let source = take (k + w + k) bs in
      let size : length source ≡ k + w + k = omega (arith, length-take (k + w + k) bs, le) in
      fills_call (called k source (target_part ps).items) r start at k w source ms ps os (all_stretches r (at + k) false (drop k bs) ms) f.0 size
      (fill_all r (at + k) false (drop k bs) ms f.1 e (omega (arith, length-drop k bs, le)))

  fill_all : (r : Reading) (at : ℕ) (start : Bool) (bs : List ℕ) (ms : Members) → AreFull ms → r.mode ≡ mode.Page → width_of_all ms ≤ length bs
      → Fills at (all_stretches r at start bs ms) (at + width_of_all ms)
  fill_all r at start bs none f e le = omega arith
  fill_all r at start bs (more m ms) f e le =
      let next = is_break (slice_index bs (width m - 1)) in
      let w : ℕ = width m in
      let v : ℕ = width_of_all ms in
      let end : (at + w) + v ≡ at + (w + v) = omega arith in
      fills_both (stretches_of r at start bs m) (all_stretches r (at + w) next (drop w bs) ms) at (at + w) (at + (w + v))
      (fill_one r at start bs m f.0 e (omega (arith, le)))
      (subst (λ (i : ℕ). Fills (at + w) (all_stretches r (at + w) next (drop w bs) ms) i) end
      (fill_all r (at + w) next (drop w bs) ms f.1 e (omega (arith, le, length-drop w bs))))

part_fills : (pages : Pages) (bs : List ℕ) → Fills 0 (page_stretches pages bs) (0 + width_of_all (text_members mode.Page bs))
unfolding page_stretches text_members
part_fills pages bs =
    let wide : width_of_all (members (reduced (words mode.Page bs))) ≡ length bs = text_bytes mode.Page bs in
    fill_all (page_reading pages) 0 true bs (members (reduced (words mode.Page bs))) (full_members (reduced (words mode.Page bs)) (full_text mode.Page bs)) refl
    (omega (arith, wide))

-- ---- items at their places

-- Behind an item of this call, at this byte, a call that isn't the same begins there, and its source isn't empty.
abbrev pub IsAtPlace : List OuterCall → ℕ → Option ℕ → Option ℕ → Type 0
IsAtPlace calls p o None = Unit {0}
IsAtPlace calls p o (Some j) = parted o (Some j) ≡ true → ((span_of_entry (slice_get calls j)).0 ≡ p) × (0 < length (source_of_call (slice_get calls j)))

abbrev pub AtPlaces : List OuterCall → ℕ → Option ℕ → List Item → Type 0
AtPlaces calls p o [] = Unit {0}
AtPlaces calls p o (x ∷ xs) = IsAtPlace calls p o (call_of x) × AtPlaces calls (p + length (text_step calls o x)) (call_of x) xs

further : (p : ℕ) (bs cs : List ℕ) → (p + length bs) + length cs ≡ p + length (bs ++ cs)
further p bs cs = let e = length-append bs cs in omega (arith, e)

still : (p : ℕ) → p + 0 ≡ p
still p = omega arith

pub places_append : (calls : List OuterCall) (p : ℕ) (o : Option ℕ) (xs ys : List Item) → AtPlaces calls p o xs
    → AtPlaces calls (p + length (text_from calls o xs)) (last_of o xs) ys → AtPlaces calls p o (xs ++ ys)
places_append calls p o [] ys h g = subst (λ (i : ℕ). AtPlaces calls i o ys) (still p) g
places_append calls p o (x ∷ xs) ys h g = (
  h.0,
  places_append calls (p + length (text_step calls o x)) (call_of x) xs ys h.1
      (subst (λ (i : ℕ). AtPlaces calls i (last_of (call_of x) xs) ys) (sym (further p (text_step calls o x) (text_from calls (call_of x) xs))) g),
)

pub places_split : (calls : List OuterCall) (p : ℕ) (o : Option ℕ) (xs ys : List Item) → AtPlaces calls p o (xs ++ ys)
    → AtPlaces calls p o xs × AtPlaces calls (p + length (text_from calls o xs)) (last_of o xs) ys
places_split calls p o [] ys h = (tt, subst (λ (i : ℕ). AtPlaces calls i o ys) (sym (still p)) h)
places_split calls p o (x ∷ xs) ys h =
    let r = places_split calls (p + length (text_step calls o x)) (call_of x) xs ys h.1 in
    ((h.0, r.0), subst (λ (i : ℕ). AtPlaces calls i (last_of (call_of x) xs) ys) (further p (text_step calls o x) (text_from calls (call_of x) xs)) r.1)

-- ---- of the page, and of one call

pub own_placed : (calls : List OuterCall) (p : ℕ) (o : Option ℕ) (xs : List Item) → AllFrom None xs → AtPlaces calls p o xs
own_placed calls p o [] h = tt
own_placed calls p o (x ∷ xs) h =
    (subst (λ (c : Option ℕ). IsAtPlace calls p o c) (sym h.0) tt, own_placed calls (p + length (text_step calls o x)) (call_of x) xs h.1)

not_parted : (k : ℕ) → parted (Some k) (Some k) ≡ true → ⊥
not_parted k t = let no : parted (Some k) (Some k) ≡ false = grind (arith, nat_tests) in let z : true ≡ false = sym t ∙ no in cc

pub same_placed : (calls : List OuterCall) (p : ℕ) (o : Option ℕ) (k : ℕ) (xs : List Item) → o ≡ Some k → AllFrom (Some k) xs → AtPlaces calls p o xs
same_placed calls p o k [] e h = tt
same_placed calls p o k (x ∷ xs) e h = (
  subst (λ (c : Option ℕ). IsAtPlace calls p o c) (sym h.0)
      (subst (λ (q : Option ℕ). IsAtPlace calls p q (Some k)) (sym e) (λ t. absurd (not_parted k t))),
  same_placed calls (p + length (text_step calls o x)) (call_of x) k xs h.0 h.1,
)

first_placed : (calls : List OuterCall) (p : ℕ) (o : Option ℕ) (k : ℕ) (z : Item) (zs : List Item) → AllFrom (Some k) (z ∷ zs)
    → (span_of_entry (slice_get calls k)).0 ≡ p → 0 < length (source_of_call (slice_get calls k)) → AtPlaces calls p o (z ∷ zs)
first_placed calls p o k z zs h s n = (
  subst (λ (c : Option ℕ). IsAtPlace calls p o c) (sym h.0) (λ t. (s, n)),
  same_placed calls (p + length (text_step calls o z)) (call_of z) k zs h.0 h.1,
)

outer_placed : (calls : List OuterCall) (p : ℕ) (o : Option ℕ) (k : ℕ) (c : OuterCall) (xs : List Item)
    → (span_of_entry (slice_get calls k)).0 ≡ p → 0 < length (source_of_call (slice_get calls k)) → AtPlaces calls p o (outer_items k c xs)
outer_placed calls p o k c [] s n = first_placed calls p o k (whole form.EmptyCall (Some k) c.source) [] (refl, tt) s n
outer_placed calls p o k c (x ∷ xs) s n = first_placed calls p o k (from_call k x) (map (from_call k) xs) (called_from k (x ∷ xs)) s n

-- ---- stretch after stretch

-- from this number on, the calls of a page are these, so many bytes later
abbrev pub AreCallsAt : List OuterCall → ℕ → ℕ → List OuterCall → Type 0
AreCallsAt calls d k [] = Unit {0}
AreCallsAt calls d k (c ∷ cs) = (slice_get calls k ≡ Some (moved_call d c)) × AreCallsAt calls d (suc k) cs

numbered_placed : (calls : List OuterCall) (d at k to : ℕ) (o : Option ℕ) (ss : List Stretch) → IsBelow k o → OwnPage ss → Fills at ss to
    → AreCallsAt calls d k (outer_calls ss) → AtPlaces calls (d + at) o (numbered k ss)
numbered_placed calls d at k to o [] b h f c = tt
numbered_placed calls d at k to o (own xs ∷ ss) b h f c =
    let size : length (text_from calls o xs) ≡ length (sources xs) = ap length (own_text calls o xs h.0) in
    let e : d + (at + length (sources xs)) ≡ (d + at) + length (text_from calls o xs) = omega (arith, size) in
    places_append calls (d + at) o xs (numbered k ss) (own_placed calls (d + at) o xs h.0)
    (subst (λ (i : ℕ). AtPlaces calls i (last_of o xs) (numbered k ss)) e
    (numbered_placed calls d (at + length (sources xs)) k to (last_of o xs) ss (below_own k o xs b h.0) h.1 f c))
numbered_placed calls d at k to o (outer x xs ∷ ss) b h f c =
    let zs : List Item = outer_items k x xs in
    let get : slice_get calls k ≡ Some (moved_call d x) = c.0 in
    let start : (span_of_entry (slice_get calls k)).0 ≡ d + at = ap (λ (y : Option OuterCall). (span_of_entry y).0) get ∙ ap (λ (i : ℕ). d + i) f.0 in
    let some : 0 < length (source_of_call (slice_get calls k)) = subst (λ (y : Option OuterCall). 0 < length (source_of_call y)) (sym get) f.1 in
    let size : length (text_from calls o zs) ≡ length x.source = ap length (outer_text calls o k x xs b ∙ ap source_of_call get) in
    let e : d + (at + length x.source) ≡ (d + at) + length (text_from calls o zs) = omega (arith, size) in
    places_append calls (d + at) o zs (numbered (suc k) ss) (outer_placed calls (d + at) o k x xs start some)
    (subst (λ (i : ℕ). AtPlaces calls i (last_of o zs) (numbered (suc k) ss)) e
    (numbered_placed calls d (at + length x.source) (suc k) to (last_of o zs) ss (below_outer k o x xs) h f.2 c.1))
numbered_placed calls d at k to o (text_call s ∷ ss) b h f c = numbered_placed calls d at k to o ss b h f c

pub part_placed : (pages : Pages) (calls : List OuterCall) (d k : ℕ) (bs : List ℕ) → AreCallsAt calls d k (expanded_page pages bs).outer
    → AtPlaces calls d None (part_items pages k bs)
unfolding expanded_page
part_placed pages calls d k bs c =
    let e : d + 0 ≡ d = omega arith in
    subst (λ (i : ℕ). AtPlaces calls i None (part_items pages k bs)) e
    (numbered_placed calls d 0 k (0 + width_of_all (text_members mode.Page bs)) None (page_stretches pages bs) tt (own_page pages bs) (part_fills pages bs) c)

-- ---- the calls of the blocks among those of the page

get_moved : (a : ℕ) (calls : List OuterCall) (k : ℕ) (c : OuterCall) → slice_get calls k ≡ Some c → slice_get (map (moved_call a) calls) k ≡ Some (moved_call a c)
get_moved a [] zero c e = absurd (cc)
get_moved a [] (suc k) c e = absurd (cc)
get_moved a (d ∷ ds) zero c e = let s : d ≡ c = cc in ap (λ (x : OuterCall). Some (moved_call a x)) s
get_moved a (d ∷ ds) (suc k) c e = get_moved a ds k c e

calls_moved : (a d k : ℕ) (calls cs : List OuterCall) → AreCallsAt calls d k cs → AreCallsAt (map (moved_call a) calls) (a + d) k cs
calls_moved a d k calls [] h = tt
calls_moved a d k calls (c ∷ cs) h =
    (get_moved a calls k (moved_call d c) h.0 ∙ ap (λ (x : OuterCall). Some x) (moved_twice a d c), calls_moved a d (suc k) calls cs h.1)

one_behind : (f : OuterCall) (d k : ℕ) (calls cs : List OuterCall) → AreCallsAt calls d k cs → AreCallsAt (f ∷ calls) d (suc k) cs
one_behind f d k calls [] h = tt
one_behind f d k calls (c ∷ cs) h = (h.0, one_behind f d (suc k) calls cs h.1)

calls_behind : (front : List OuterCall) (d k : ℕ) (calls cs : List OuterCall) → AreCallsAt calls d k cs → AreCallsAt (front ++ calls) d (length front + k) cs
calls_behind [] d k calls cs h = let e : k ≡ 0 + k = omega arith in subst (λ (i : ℕ). AreCallsAt calls d i cs) e h
calls_behind (f ∷ front) d k calls cs h =
    let e : suc (length front + k) ≡ suc (length front) + k = omega arith in
    subst (λ (i : ℕ). AreCallsAt (f ∷ front ++ calls) d i cs) e (one_behind f d (length front + k) (front ++ calls) cs (calls_behind front d k calls cs h))

calls_first : (cs calls : List OuterCall) → AreCallsAt (cs ++ calls) 0 0 cs
calls_first [] calls = tt
calls_first (c ∷ cs) calls = (ap (λ (x : OuterCall). Some x) (moved_still c), one_behind c 0 0 (cs ++ calls) cs (calls_first cs calls))

pub own_calls : (cs : List OuterCall) → AreCallsAt cs 0 0 cs
own_calls cs = subst (λ (ds : List OuterCall). AreCallsAt ds 0 0 cs) (append-nil cs) (calls_first cs [])

-- where so many calls and bytes come before
abbrev pub AreBlockCalls : Pages → List OuterCall → ℕ → ℕ → List BlockSpot → Type 0
AreBlockCalls pages calls k at [] = Unit {0}
AreBlockCalls pages calls k at (s ∷ ss) =
    AreCallsAt calls (at + length s.before) (calls_to pages k s) (expanded_page pages (source_of s.block s.text)).outer
    × AreBlockCalls pages calls (calls_past pages k s) ((at + length s.before) + length (source_of s.block s.text)) ss

blocks_at : (pages : Pages) (calls : List OuterCall) (k at : ℕ) (ss : List BlockSpot) (behind : List ℕ)
    → ((d j : ℕ) (cs : List OuterCall) → AreCallsAt (called_outers pages ss behind) d j cs → AreCallsAt calls (at + d) (k + j) cs)
    → AreBlockCalls pages calls k at ss
blocks_at pages calls k at [] behind f = tt
blocks_at pages calls k at (s ∷ ss) behind f =
    let q : List ℕ = source_of s.block s.text in
    let before : List OuterCall = (expanded_page pages s.before).outer in
    let mine : List OuterCall = (expanded_page pages q).outer in
    let rest : List OuterCall = called_outers pages ss behind in
    let a : ℕ = length s.before in
    let b : ℕ = length q in
    let here : AreCallsAt (called_outers pages (s ∷ ss) behind) (a + 0) (length before + 0) mine =
    calls_behind before (a + 0) 0 (map (moved_call a) (mine ++ map (moved_call b) rest)) mine
    (calls_moved a 0 0 (mine ++ map (moved_call b) rest) mine (calls_first mine (map (moved_call b) rest))) in
    let i : at + (a + 0) ≡ at + a = omega arith in
    let j : k + (length before + 0) ≡ k + length before = omega arith in (
      subst (λ (n : ℕ). AreCallsAt calls n (k + length before) mine) i
          (subst (λ (n : ℕ). AreCallsAt calls (at + (a + 0)) n mine) j (f (a + 0) (length before + 0) mine here)),
      blocks_at pages calls (calls_past pages k s) ((at + a) + b) ss behind
          (λ d n cs h.
          let there : AreCallsAt (called_outers pages (s ∷ ss) behind) (a + (b + d)) (length before + (length mine + n)) cs =
          calls_behind before (a + (b + d)) (length mine + n) (map (moved_call a) (mine ++ map (moved_call b) rest)) cs
          (calls_moved a (b + d) (length mine + n) (mine ++ map (moved_call b) rest) cs
          (calls_behind mine (b + d) n (map (moved_call b) rest) cs (calls_moved b d n rest cs h))) in
          let x : at + (a + (b + d)) ≡ ((at + a) + b) + d = omega arith in
          let y : k + (length before + (length mine + n)) ≡ ((k + length before) + length mine) + n = omega arith in
          subst (λ (m : ℕ). AreCallsAt calls m (((k + length before) + length mine) + n) cs) x
          (subst (λ (m : ℕ). AreCallsAt calls (at + (a + (b + d))) m cs) y (f (a + (b + d)) (length before + (length mine + n)) cs there))),
    )

pub block_calls : (pages : Pages) (ss : List BlockSpot) (behind : List ℕ) → AreCalled pages ss behind
    → AreBlockCalls pages (expanded_page pages (spots_source ss behind)).outer 0 0 ss
block_calls pages ss behind h =
    subst (λ (calls : List OuterCall). AreBlockCalls pages calls 0 0 ss) (sym (is_by_parts pages ss behind h).outers)
    (blocks_at pages (called_outers pages ss behind) 0 0 ss behind
    (λ d j cs k.
    let x : d ≡ 0 + d = omega arith in
    let y : j ≡ 0 + j = omega arith in
    subst (λ (n : ℕ). AreCallsAt (called_outers pages ss behind) n (0 + j) cs) x
    (subst (λ (n : ℕ). AreCallsAt (called_outers pages ss behind) d n cs) y k)))

-- ---- the page

pub page_placed : (pages : Pages) (bs : List ℕ) → AtPlaces (expanded_page pages bs).outer 0 None (expanded_page pages bs).items
unfolding expanded_page
page_placed pages bs = part_placed pages (expanded_page pages bs).outer 0 0 bs (own_calls (expanded_page pages bs).outer)
