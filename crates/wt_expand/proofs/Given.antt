-- What the stretches of a page give is what the page gives, and they are made of the page's bytes.
use Rattle.std.proofs.Common.{◌≡◌, ℕ, zero, suc, ◌+◌, ◌-◌, ◌≤◌, Bool, true, false, List, [], ◌∷◌, ◌++◌, length, map, take, drop, refl, sym, ap, ◌∙◌, arith, append_assoc, append-nil, length-take, length-drop}
use Rattle.std.specs.Prelude.{slice_index}
use Rattle.std.proofs.lemmas.List.{drop-take, drop-drop, take-take, take_all}
use Rattle.std.proofs.lemmas.List.Concat.{flat_map-append}
use Rattle.wt_span.specs.declared.form.Mode.TheVariants as mode
use Rattle.wt_span.specs.declared.form.Mode.{Mode}
use Rattle.wt_span.specs.Origins.{OuterCall}
use Rattle.wt_span.specs.Bytes.{is_break}
use Rattle.wt_span.specs.Lexemes.{Word, words}
use Rattle.wt_span.specs.Items.{Item, char, whole, source, sources}
use Rattle.wt_span.specs.Braces.{Member, Members, lexeme, call, none, more, width, width_of_all}
use Rattle.wt_lex.specs.Reading.{AreLexemes}
use Rattle.wt_lex.proofs.Readings.{words_are}
use Rattle.wt_braces.specs.PartMembers.{part_members}
use Rattle.wt_braces.specs.Words.{total_width}
use Rattle.wt_braces.proofs.TextLaws.{text_width}
use Rattle.wt_expand.specs.PageItems.{form_of}
use Rattle.wt_expand.specs.Texts.{shown, shown_text}
use Rattle.wt_expand.specs.Targets.{Called, argument, choice, function, page, text, called}
use Rattle.wt_expand.specs.Work.{Pages}
use Rattle.wt_expand.specs.Expansion.{Output, joined, chars, lexeme_items, PartOutput, part_outputs, target_part, Reading, front_braces, back_braces, called_output, output_of, outputs_of, text_members, text_given, page_reading}
use Rattle.wt_expand.specs.PageCalls.{Stretch, own, outer, text_call, call_stretches, stretches_of, all_stretches, from_call, outer_items, numbered, page_stretches, expanded_page}
use Rattle.wt_expand.specs.Stretches.{given_items, page_bytes}
use Rattle.wt_expand.proofs.PageLaws.{form_sources, char_sources}

-- ---- items

given_append : (ss ts : List Stretch) → given_items (ss ++ ts) ≡ given_items ss ++ given_items ts
given_append [] ts = refl
given_append (own xs ∷ ss) ts = ap (λ ys. xs ++ ys) (given_append ss ts) ∙ sym (append_assoc xs (given_items ss) (given_items ts))
given_append (outer c xs ∷ ss) ts = ap (λ ys. xs ++ ys) (given_append ss ts) ∙ sym (append_assoc xs (given_items ss) (given_items ts))
given_append (text_call s ∷ ss) ts = given_append ss ts

given_call : (c : Called) (r : Reading) (start : Bool) (at k : ℕ) (source : List ℕ) (ms : Members) (ps : List PartOutput)
    (os : List Output) (inside : List Stretch) → given_items inside ≡ (joined os).items
    → given_items (call_stretches c at k source ms (called_output c r start k source ps os).items inside) ≡ (called_output c r start k source ps os).items
given_call argument r start at k source ms ps os inside e = append-nil _
given_call (choice f n) r start at k source ms ps os inside e = append-nil _
given_call function r start at k source ms ps os inside e = append-nil _
given_call (page t) r start at k source ms ps os inside e = append-nil _
given_call text r start at k source ms ps os inside e =
    ap (λ ys. chars (front_braces k source) ++ ys)
    (given_append inside (own (chars (back_braces k source)) ∷ []) ∙ ap (λ ys. ys ++ (chars (back_braces k source) ++ [])) e
    ∙ ap (λ ys. (joined os).items ++ ys) (append-nil (chars (back_braces k source))))

mutual
  given_one : (r : Reading) (at : ℕ) (start : Bool) (bs : List ℕ) (m : Member) → given_items (stretches_of r at start bs m) ≡ (output_of r start bs m).items
  given_one r at start bs (lexeme w) = append-nil _
  given_one r at start bs (call k ms) =
      let os = outputs_of r false (drop k bs) ms in
      let ps = part_outputs (part_members 0 ms) os in
      let source = take (k + width_of_all ms + k) bs in
      given_call (called k source (target_part ps).items) r start at k source ms ps os
      (all_stretches r (at + k) false (drop k bs) ms) (given_all r (at + k) false (drop k bs) ms)

  given_all : (r : Reading) (at : ℕ) (start : Bool) (bs : List ℕ) (ms : Members) → given_items (all_stretches r at start bs ms)
      ≡ (joined (outputs_of r start bs ms)).items
  given_all r at start bs none = refl
  given_all r at start bs (more m ms) =
      let next = is_break (slice_index bs (width m - 1)) in
      given_append (stretches_of r at start bs m) (all_stretches r (at + width m) next (drop (width m) bs) ms)
      ∙ ap (λ xs. xs ++ given_items (all_stretches r (at + width m) next (drop (width m) bs) ms)) (given_one r at start bs m)
      ∙ ap (λ xs. (output_of r start bs m).items ++ xs) (given_all r (at + width m) next (drop (width m) bs) ms)

pub stretches_give : (pages : Pages) (bs : List ℕ) → given_items (page_stretches pages bs) ≡ (text_given (page_reading pages) bs).items
unfolding page_stretches
stretches_give pages bs = given_all (page_reading pages) 0 true bs (text_members mode.Page bs)

-- ---- what is shown

shown_from : (k : ℕ) (x : Item) → shown (from_call k x) ≡ shown x
shown_from k (char o b) = refl
shown_from k (whole f o bs) = refl

shown_calls : (k : ℕ) (xs : List Item) → shown_text (map (from_call k) xs) ≡ shown_text xs
shown_calls k [] = refl
shown_calls k (x ∷ xs) = ap (λ bs. bs ++ shown_text (map (from_call k) xs)) (shown_from k x) ∙ ap (λ bs. shown x ++ bs) (shown_calls k xs)

shown_append : (xs ys : List Item) → shown_text (xs ++ ys) ≡ shown_text xs ++ shown_text ys
shown_append xs ys = flat_map-append shown xs ys

shown_outer : (k : ℕ) (c : OuterCall) (xs : List Item) → shown_text (outer_items k c xs) ≡ shown_text xs
shown_outer k c [] = refl
shown_outer k c (x ∷ xs) = shown_calls k (x ∷ xs)

shown_numbered : (k : ℕ) (ss : List Stretch) → shown_text (numbered k ss) ≡ shown_text (given_items ss)
shown_numbered k [] = refl
shown_numbered k (own xs ∷ ss) = shown_append xs (numbered k ss) ∙ ap (λ bs. shown_text xs ++ bs) (shown_numbered k ss) ∙ sym (shown_append xs (given_items ss))
shown_numbered k (outer c xs ∷ ss) =
    shown_append (outer_items k c xs) (numbered (suc k) ss) ∙ ap (λ bs. bs ++ shown_text (numbered (suc k) ss)) (shown_outer k c xs)
    ∙ ap (λ bs. shown_text xs ++ bs) (shown_numbered (suc k) ss) ∙ sym (shown_append xs (given_items ss))
shown_numbered k (text_call s ∷ ss) = shown_numbered k ss

pub shows_what_is_given : (pages : Pages) (bs : List ℕ) → shown_text (expanded_page pages bs).items ≡ shown_text (text_given (page_reading pages) bs).items
unfolding expanded_page
shows_what_is_given pages bs = shown_numbered 0 (page_stretches pages bs) ∙ ap shown_text (stretches_give pages bs)

-- ---- bytes

bytes_append : (ss ts : List Stretch) → page_bytes (ss ++ ts) ≡ page_bytes ss ++ page_bytes ts
bytes_append [] ts = refl
bytes_append (own xs ∷ ss) ts = ap (λ ys. sources xs ++ ys) (bytes_append ss ts) ∙ sym (append_assoc (sources xs) (page_bytes ss) (page_bytes ts))
bytes_append (outer c xs ∷ ss) ts = ap (λ ys. c.source ++ ys) (bytes_append ss ts) ∙ sym (append_assoc c.source (page_bytes ss) (page_bytes ts))
bytes_append (text_call s ∷ ss) ts = bytes_append ss ts

take_none : (n : ℕ) → ◌≡◌ {A = List ℕ} (take n []) []
take_none zero = refl
take_none (suc n) = refl

take_both : (a b : ℕ) (bs : List ℕ) → take (a + b) bs ≡ take a bs ++ take b (drop a bs)
take_both zero b [] = let e : 0 + b ≡ b = omega arith in ap (λ (n : ℕ). take n []) e
take_both zero b (x ∷ xs) = let e : 0 + b ≡ b = omega arith in ap (λ (n : ℕ). take n (x ∷ xs)) e
take_both (suc n) b [] = take_none (suc n + b) ∙ sym (take_none b)
take_both (suc n) b (x ∷ xs) = let e : suc n + b ≡ suc (n + b) = omega arith in ap (λ (i : ℕ). take i (x ∷ xs)) e ∙ ap (λ ys. x ∷ ys) (take_both n b xs)

bytes_call : (c : Called) (r : Reading) (start : Bool) (at k w : ℕ) (source : List ℕ) (ms : Members) (ps : List PartOutput)
    (os : List Output) (inside : List Stretch)
    → take k source ++ (page_bytes inside ++ drop (length source - k) source) ≡ source
    → page_bytes (call_stretches c at k source ms (called_output c r start k source ps os).items inside) ≡ source
bytes_call argument r start at k w source ms ps os inside e = append-nil source
bytes_call (choice f n) r start at k w source ms ps os inside e = append-nil source
bytes_call function r start at k w source ms ps os inside e = append-nil _ ∙ append-nil source
bytes_call (page t) r start at k w source ms ps os inside e = append-nil source
bytes_call text r start at k w source ms ps os inside e =
    ap (λ ys. ys ++ page_bytes (inside ++ own (chars (back_braces k source)) ∷ [])) (char_sources (front_braces k source))
    ∙ ap (λ ys. front_braces k source ++ ys) (bytes_append inside (own (chars (back_braces k source)) ∷ [])
    ∙ ap (λ ys. page_bytes inside ++ ys) (append-nil _ ∙ char_sources (back_braces k source))) ∙ e

mutual
  bytes_one : (r : Reading) (at : ℕ) (start : Bool) (bs : List ℕ) (m : Member) → r.mode ≡ mode.Page → width m ≤ length bs
      → page_bytes (stretches_of r at start bs m) ≡ take (width m) bs
  bytes_one r at start bs (lexeme (kind, n)) e le =
      append-nil _ ∙ ap (λ (x : Mode). sources (lexeme_items x kind (take n bs))) e ∙ form_sources (form_of kind (take n bs)) (take n bs)
  bytes_one r at start bs (call k ms) e le =
      let os = outputs_of r false (drop k bs) ms in
      let ps = part_outputs (part_members 0 ms) os in
      let W : ℕ = width_of_all ms in
      let source = take (k + W + k) bs in
      let size : length source ≡ k + W + k = omega (arith, length-take (k + W + k) bs) in
      let inside = bytes_all r (at + k) false (drop k bs) ms e (omega (arith, length-drop k bs)) in
      let front : take k source ≡ take k bs = take-take k (k + W + k) bs (omega arith) in
      let less : length source - k ≡ k + W = omega (arith, size) in
      let back : drop (length source - k) source ≡ take k (drop (k + W) bs) = ap (λ (i : ℕ). drop i source) less ∙ drop-take (k + W) k bs in
      let mid : take k bs ++ (take W (drop k bs) ++ take k (drop (k + W) bs)) ≡ source =
      ap (λ ys. take k bs ++ (take W (drop k bs) ++ take k ys)) (sym (drop-drop W k bs)) ∙ ap (λ ys. take k bs ++ ys) (sym (take_both W k (drop k bs)))
      ∙ sym (take_both k (W + k) bs) ∙ (let z : k + (W + k) ≡ k + W + k = omega arith in ap (λ (i : ℕ). take i bs) z) in
      bytes_call (called k source (target_part ps).items) r start at k 0 source ms ps os (all_stretches r (at + k) false (drop k bs) ms)
      (ap (λ ys. ys ++ (page_bytes (all_stretches r (at + k) false (drop k bs) ms) ++ drop (length source - k) source)) front
      ∙ ap (λ ys. take k bs ++ (ys ++ drop (length source - k) source)) inside ∙ ap (λ ys. take k bs ++ (take W (drop k bs) ++ ys)) back ∙ mid)

  bytes_all : (r : Reading) (at : ℕ) (start : Bool) (bs : List ℕ) (ms : Members) → r.mode ≡ mode.Page
      → width_of_all ms ≤ length bs → page_bytes (all_stretches r at start bs ms) ≡ take (width_of_all ms) bs
  bytes_all r at start [] none e le = refl
  bytes_all r at start (b ∷ bs) none e le = refl
  bytes_all r at start bs (more m ms) e le =
      let next = is_break (slice_index bs (width m - 1)) in
      bytes_append (stretches_of r at start bs m) (all_stretches r (at + width m) next (drop (width m) bs) ms)
      ∙ ap (λ ys. ys ++ page_bytes (all_stretches r (at + width m) next (drop (width m) bs) ms)) (bytes_one r at start bs m e (omega (arith, le)))
      ∙ ap (λ ys. take (width m) bs ++ ys) (bytes_all r (at + width m) next (drop (width m) bs) ms e (omega (arith, le, length-drop (width m) bs)))
      ∙ sym (take_both (width m) (width_of_all ms) bs)

-- the lexemes of a text are as wide as it
words_wide : (after : Bool) (ws : List Word) (bs : List ℕ) → AreLexemes mode.Page after ws bs → total_width ws ≡ length bs
words_wide after [] bs a = ap length (sym a)
words_wide after ((kind, n) ∷ ws) bs a = omega (arith, words_wide (is_break (slice_index bs (n - 1))) ws (drop n bs) a.4, length-drop n bs, a.1)

members_wide : (bs : List ℕ) → width_of_all (text_members mode.Page bs) ≡ length bs
unfolding text_members
members_wide bs = text_width (words mode.Page bs) ∙ words_wide false (words mode.Page bs) bs (words_are mode.Page bs)

pub stretches_join : (pages : Pages) (bs : List ℕ) → page_bytes (page_stretches pages bs) ≡ bs
unfolding page_stretches
stretches_join pages bs =
    let wide = members_wide bs in
    bytes_all (page_reading pages) 0 true bs (text_members mode.Page bs) refl (omega (arith, wide))
    ∙ ap (λ (n : ℕ). take n bs) wide ∙ take_all (length bs) bs (omega arith)
