-- What two texts give that stand side by side: what each gives by itself.
use Rattle.std.proofs.Common.{arith, ◌≡◌, inl, inr, ℕ, suc, ◌+◌, ◌-◌, ◌≤◌, Bool, false, None, List, [], ◌∷◌, ◌++◌, length, map, take, drop, refl, sym, ap, ap₂, ◌∙◌, subst, append_assoc}
use Rattle.std.specs.Prelude.{slice_index}
use Rattle.std.proofs.Math.Seq.{take-add, drop-append_seam}
use Rattle.std.proofs.lemmas.List.{take-append-le, drop-append-le, get_or_append_left, get_or-drop, length-drop, drop-drop, map-append}
use Rattle.wt_span.specs.declared.form.Mode.{Mode}
use Rattle.wt_span.specs.declared.form.Mode.TheVariants as mode
use Rattle.wt_span.specs.declared.form.LexKind.TheVariants.{Chars}
use Rattle.wt_span.specs.Bytes.{is_break}
use Rattle.wt_span.specs.Items.{Item, char}
use Rattle.wt_span.specs.Lexemes.{words}
use Rattle.wt_span.specs.Origins.{OuterCall, Span}
use Rattle.wt_span.specs.Braces.{Member, Members, lexeme, call, none, more, members, width, width_of_all, reduced}
use Rattle.wt_braces.specs.PartMembers.{part_members}
use Rattle.wt_expand.specs.Targets.{called}
use Rattle.wt_expand.specs.PageCalls.{Stretch, own, outer, text_call, stretches_of, all_stretches, call_stretches, outer_items, numbered, outer_calls, text_spans}
use Rattle.wt_expand.specs.Expansion.{Output, just, then_output, joined, Reading, lexeme_items, part_outputs, target_part, call_output, output_of, outputs_of, text_members}
use Rattle.wt_expand.specs.Work.{Entry}
use Rattle.wt_transclusion.specs.Stretch.{IsFull, AreFull, AllFull}
use Rattle.wt_transclusion.proofs.Full.{full_text, text_bytes}
use Rattle.wt_part_laws.specs.Apart.{AreApart, AreMet, given_from, stretches_from, AreReadApart, AreAlike, GivesBoth}
use Rattle.wt_part_laws.proofs.ApartCalls.{reduced_apart, run_cut}

-- whether a line begins behind these members, which take these bytes
abbrev pub begins_line : Bool → List ℕ → List Member → Bool
begins_line start bs [] = start
begins_line start bs (m ∷ ms) = begins_line (is_break (slice_index bs (width m - 1))) (drop (width m) bs) ms

-- ---- bytes behind a text

has_bytes : (m : Member) → IsFull m → 1 ≤ width m
has_bytes (lexeme (kind, n)) h = h
has_bytes (call k ms) h = omega (arith, h.0)

byte_front : (bs cs : List ℕ) (n : ℕ) → 1 ≤ n → n ≤ length bs → slice_index (bs ++ cs) (n - 1) ≡ slice_index bs (n - 1)
byte_front bs cs n some le = get_or_append_left bs cs 0 (n - 1) (omega (arith, some, le))

left_long : (bs : List ℕ) (n k : ℕ) → n + k ≤ length bs → k ≤ length (drop n bs)
left_long bs n k le = let d = length-drop n bs in omega (arith, d, le)

mutual
  output_front : (r : Reading) (s : Bool) (bs cs : List ℕ) (m : Member) → IsFull m → width m ≤ length bs → output_of r s (bs ++ cs) m ≡ output_of r s bs m
  output_front r s bs cs (lexeme (kind, n)) f le = ap (λ xs. just (lexeme_items r.mode kind xs)) (take-append-le n bs cs le)
  output_front r s bs cs (call k ms) f le =
      let own_le : k ≤ length bs = omega (arith, le) in
      ap₂ (λ source os. call_output r s k source (part_members 0 ms) os) (take-append-le (k + width_of_all ms + k) bs cs le)
      (ap (λ xs. outputs_of r false xs ms) (drop-append-le k bs cs own_le)
      ∙ outputs_front r false (drop k bs) cs ms f.1 (left_long bs k (width_of_all ms) (omega (arith, le))))

  outputs_front : (r : Reading) (s : Bool) (bs cs : List ℕ) (ms : Members) → AreFull ms → width_of_all ms ≤ length bs
      → outputs_of r s (bs ++ cs) ms ≡ outputs_of r s bs ms
  outputs_front r s bs cs none f le = refl
  outputs_front r s bs cs (more m ms) f le =
      let own_le : width m ≤ length bs = omega (arith, le) in
      ap₂ (λ (o : Output) (os : List Output). o ∷ os) (output_front r s bs cs m f.0 own_le)
      (ap₂ (λ (b : Bool) (xs : List ℕ). outputs_of r b xs ms) (ap is_break (byte_front bs cs (width m) (has_bytes m f.0) own_le)) (drop-append-le (width m) bs cs own_le)
      ∙ outputs_front r (is_break (slice_index bs (width m - 1))) (drop (width m) bs) cs ms f.1 (left_long bs (width m) (width_of_all ms) le))

mutual
  stretch_front : (r : Reading) (at : ℕ) (s : Bool) (bs cs : List ℕ) (m : Member) → IsFull m → width m ≤ length bs
      → stretches_of r at s (bs ++ cs) m ≡ stretches_of r at s bs m
  stretch_front r at s bs cs (lexeme w) f le = ap (λ (o : Output). own o.items ∷ []) (output_front r s bs cs (lexeme w) f le)
  stretch_front r at s bs cs (call k ms) f le =
      let own_le : k ≤ length bs = omega (arith, le) in
      let long : width_of_all ms ≤ length (drop k bs) = left_long bs k (width_of_all ms) (omega (arith, le)) in
      let outs : outputs_of r false (drop k (bs ++ cs)) ms ≡ outputs_of r false (drop k bs) ms =
      ap (λ xs. outputs_of r false xs ms) (drop-append-le k bs cs own_le) ∙ outputs_front r false (drop k bs) cs ms f.1 long in
      let inside : all_stretches r (at + k) false (drop k (bs ++ cs)) ms ≡ all_stretches r (at + k) false (drop k bs) ms =
      ap (λ xs. all_stretches r (at + k) false xs ms) (drop-append-le k bs cs own_le) ∙ stretches_front r (at + k) false (drop k bs) cs ms f.1 long in
      let source : take (k + width_of_all ms + k) (bs ++ cs) ≡ take (k + width_of_all ms + k) bs = take-append-le (k + width_of_all ms + k) bs cs le in
      let Made : List ℕ → List Output → List Item → List Stretch → List Stretch =
      λ xs os given ss. call_stretches (called k xs (target_part (part_outputs (part_members 0 ms) os)).items) at k xs ms given ss in
      ap (λ xs. Made xs (outputs_of r false (drop k (bs ++ cs)) ms) (output_of r s (bs ++ cs) (call k ms)).items (all_stretches r (at + k) false (drop k (bs ++ cs)) ms)) source
      ∙ ap (λ os. Made (take (k + width_of_all ms + k) bs) os (output_of r s (bs ++ cs) (call k ms)).items (all_stretches r (at + k) false (drop k (bs ++ cs)) ms)) outs
      ∙ ap (λ (o : Output). Made (take (k + width_of_all ms + k) bs) (outputs_of r false (drop k bs) ms) o.items (all_stretches r (at + k) false (drop k (bs ++ cs)) ms))
      (output_front r s bs cs (call k ms) f le)
      ∙ ap (λ ss. Made (take (k + width_of_all ms + k) bs) (outputs_of r false (drop k bs) ms) (output_of r s bs (call k ms)).items ss) inside

  stretches_front : (r : Reading) (at : ℕ) (s : Bool) (bs cs : List ℕ) (ms : Members) → AreFull ms → width_of_all ms ≤ length bs
      → all_stretches r at s (bs ++ cs) ms ≡ all_stretches r at s bs ms
  stretches_front r at s bs cs none f le = refl
  stretches_front r at s bs cs (more m ms) f le =
      let own_le : width m ≤ length bs = omega (arith, le) in
      ap₂ (λ (ss ts : List Stretch). ss ++ ts) (stretch_front r at s bs cs m f.0 own_le)
      (ap₂ (λ (b : Bool) (xs : List ℕ). all_stretches r (at + width m) b xs ms) (ap is_break (byte_front bs cs (width m) (has_bytes m f.0) own_le)) (drop-append-le (width m) bs cs own_le)
      ∙ stretches_front r (at + width m) (is_break (slice_index bs (width m - 1))) (drop (width m) bs) cs ms f.1 (left_long bs (width m) (width_of_all ms) le))

line_front : (s : Bool) (bs cs : List ℕ) (xs : List Member) → AllFull xs → width_of_all (members xs) ≤ length bs → begins_line s (bs ++ cs) xs ≡ begins_line s bs xs
line_front s bs cs [] f le = refl
line_front s bs cs (x ∷ xs) f le =
    let own_le : width x ≤ length bs = omega (arith, le) in
    ap₂ (λ (b : Bool) (ys : List ℕ). begins_line b ys xs) (ap is_break (byte_front bs cs (width x) (has_bytes x f.0) own_le)) (drop-append-le (width x) bs cs own_le)
    ∙ line_front (is_break (slice_index bs (width x - 1))) (drop (width x) bs) cs xs f.1 (left_long bs (width x) (width_of_all (members xs)) le)

-- ---- members one after another

all_full : (xs : List Member) → AllFull xs → AreFull (members xs)
all_full [] f = tt
all_full (x ∷ xs) f = (f.0, all_full xs f.1)

stretches_join : (r : Reading) (at : ℕ) (s : Bool) (bs : List ℕ) (xs ys : List Member)
    → all_stretches r at s bs (members (xs ++ ys))
    ≡ all_stretches r at s bs (members xs)
    ++ all_stretches r (at + width_of_all (members xs)) (begins_line s bs xs) (drop (width_of_all (members xs)) bs) (members ys)
stretches_join r at s bs [] ys = let z : at ≡ at + 0 = omega arith in ap (λ (i : ℕ). all_stretches r i s bs (members ys)) z
stretches_join r at s bs (x ∷ xs) ys =
    let n : ℕ = width_of_all (members xs) in
    let b : Bool = is_break (slice_index bs (width x - 1)) in
    let z : at + width x + n ≡ at + (width x + n) = omega arith in
    ap (λ ss. stretches_of r at s bs x ++ ss) (stretches_join r (at + width x) b (drop (width x) bs) xs ys
    ∙ ap₂ (λ (i : ℕ) (cs : List ℕ). all_stretches r (at + width x) b (drop (width x) bs) (members xs) ++ all_stretches r i (begins_line b (drop (width x) bs) xs) cs (members ys))
    z (drop-drop n (width x) bs))
    ∙ sym (append_assoc (stretches_of r at s bs x) (all_stretches r (at + width x) b (drop (width x) bs) (members xs))
    (all_stretches r (at + (width x + n)) (begins_line b (drop (width x) bs) xs) (drop (width x + n) bs) (members ys)))

outputs_join : (r : Reading) (s : Bool) (bs : List ℕ) (xs ys : List Member)
    → outputs_of r s bs (members (xs ++ ys)) ≡ outputs_of r s bs (members xs) ++ outputs_of r (begins_line s bs xs) (drop (width_of_all (members xs)) bs) (members ys)
outputs_join r s bs [] ys = refl
outputs_join r s bs (x ∷ xs) ys =
    let n : ℕ = width_of_all (members xs) in
    let b : Bool = is_break (slice_index bs (width x - 1)) in
    ap (λ (os : List Output). output_of r s bs x ∷ os) (outputs_join r b (drop (width x) bs) xs ys
    ∙ ap (λ (cs : List ℕ). outputs_of r b (drop (width x) bs) (members xs) ++ outputs_of r (begins_line b (drop (width x) bs) xs) cs (members ys)) (drop-drop n (width x) bs))

joined_both : (os ps : List Output) → joined (os ++ ps) ≡ then_output (joined os) (joined ps)
joined_both [] ps = refl
joined_both (o ∷ os) ps =
    ap (then_output o) (joined_both os ps)
    ∙ ap₂ (λ (xs : List Item) (es : List Entry). record { items = xs; work = es }) (sym (append_assoc o.items (joined os).items (joined ps).items))
    (sym (append_assoc o.work (joined os).work (joined ps).work))

-- ---- what stretches have

pub numbered_both : (k : ℕ) (ss ts : List Stretch) → numbered k (ss ++ ts) ≡ numbered k ss ++ numbered (k + length (outer_calls ss)) ts
numbered_both k [] ts = let z : k ≡ k + 0 = omega arith in ap (λ (i : ℕ). numbered i ts) z
numbered_both k (own xs ∷ ss) ts =
    ap (λ ys. xs ++ ys) (numbered_both k ss ts) ∙ sym (append_assoc xs (numbered k ss) (numbered (k + length (outer_calls ss)) ts))
numbered_both k (outer c xs ∷ ss) ts =
    let n : ℕ = length (outer_calls ss) in
    let z : suc k + n ≡ k + suc n = omega arith in
    ap (λ ys. outer_items k c xs ++ ys) (numbered_both (suc k) ss ts ∙ ap (λ (i : ℕ). numbered (suc k) ss ++ numbered i ts) z)
    ∙ sym (append_assoc (outer_items k c xs) (numbered (suc k) ss) (numbered (k + suc n) ts))
numbered_both k (text_call s ∷ ss) ts = numbered_both k ss ts

pub outers_both : (ss ts : List Stretch) → outer_calls (ss ++ ts) ≡ outer_calls ss ++ outer_calls ts
outers_both [] ts = refl
outers_both (own xs ∷ ss) ts = outers_both ss ts
outers_both (outer c xs ∷ ss) ts = ap (λ (cs : List OuterCall). c ∷ cs) (outers_both ss ts)
outers_both (text_call s ∷ ss) ts = outers_both ss ts

pub spans_both : (ss ts : List Stretch) → text_spans (ss ++ ts) ≡ text_spans ss ++ text_spans ts
spans_both [] ts = refl
spans_both (own xs ∷ ss) ts = spans_both ss ts
spans_both (outer c xs ∷ ss) ts = spans_both ss ts
spans_both (text_call s ∷ ss) ts = ap (λ (us : List Span). s ∷ us) (spans_both ss ts)

alike_behind : (ss ts us : List Stretch) → AreAlike ts us → AreAlike (ss ++ ts) (ss ++ us)
alike_behind ss ts us a = record {
  items = λ k.
      numbered_both k ss ts
      ∙ ap (λ xs. numbered k ss ++ xs) (a.items (k + length (outer_calls ss)))
      ∙ sym (numbered_both k ss us);
  outers = outers_both ss ts ∙ ap (λ (cs : List OuterCall). outer_calls ss ++ cs) a.outers ∙ sym (outers_both ss us);
  texts = spans_both ss ts ∙ ap (λ (vs : List Span). text_spans ss ++ vs) a.texts ∙ sym (spans_both ss us);
}

-- ---- a run of characters that is cut

run_items : (m : Mode) (bs : List ℕ) → lexeme_items m Chars bs ≡ map (char None) bs
run_items mode.Page bs = refl
run_items mode.Template bs = refl

run_split : (m : Mode) (i j : ℕ) (bs : List ℕ) → lexeme_items m Chars (take (i + j) bs) ≡ lexeme_items m Chars (take i bs) ++ lexeme_items m Chars (take j (drop i bs))
run_split m i j bs =
    run_items m (take (i + j) bs)
    ∙ ap (map (char None)) (take-add i j bs)
    ∙ map-append (char None) (take i bs) (take j (drop i bs))
    ∙ ap₂ (λ (xs ys : List Item). xs ++ ys) (sym (run_items m (take i bs))) (sym (run_items m (take j (drop i bs))))

last_byte : (bs : List ℕ) (i j : ℕ) → 1 ≤ j → slice_index bs ((i + j) - 1) ≡ slice_index (drop i bs) (j - 1)
last_byte bs i j some = let z : (i + j) - 1 ≡ i + (j - 1) = omega (arith, some) in ap (slice_index bs) z ∙ sym (get_or-drop i bs (j - 1) 0)

abbrev as_one : List Member → ℕ → ℕ → List Member → List Member
as_one xs i j ys = xs ++ lexeme (Chars, i + j) ∷ ys

abbrev as_two : List Member → ℕ → ℕ → List Member → List Member
as_two xs i j ys = xs ++ lexeme (Chars, i) ∷ lexeme (Chars, j) ∷ ys

more_assoc : (xs ys : List Item) (o : Output) → then_output (just (xs ++ ys)) o ≡ then_output (just xs) (then_output (just ys) o)
more_assoc xs ys o = ap (λ (zs : List Item). record { items = zs; work = o.work }) (append_assoc xs ys o.items)

outputs_split : (r : Reading) (s : Bool) (bs : List ℕ) (xs : List Member) (i j : ℕ) (ys : List Member) → 1 ≤ j
    → joined (outputs_of r s bs (members (as_one xs i j ys))) ≡ joined (outputs_of r s bs (members (as_two xs i j ys)))
outputs_split r s bs [] i j ys some =
    ap₂ (λ (zs : List Item) (os : List Output). then_output (just zs) (joined os)) (run_split r.mode i j bs)
    (ap₂ (λ (b : Bool) (cs : List ℕ). outputs_of r b cs (members ys)) (ap is_break (last_byte bs i j some)) (sym (drop-drop j i bs)))
    ∙ more_assoc (lexeme_items r.mode Chars (take i bs)) (lexeme_items r.mode Chars (take j (drop i bs)))
    (joined (outputs_of r (is_break (slice_index (drop i bs) (j - 1))) (drop j (drop i bs)) (members ys)))
outputs_split r s bs (x ∷ xs) i j ys some =
    ap (then_output (output_of r s bs x)) (outputs_split r (is_break (slice_index bs (width x - 1))) (drop (width x) bs) xs i j ys some)

run_alike : (xs ys : List Item) (ss : List Stretch) → AreAlike (own (xs ++ ys) ∷ ss) (own xs ∷ own ys ∷ ss)
run_alike xs ys ss = record { items = λ k. append_assoc xs ys (numbered k ss); outers = refl; texts = refl }

alike_by : (ss ts us : List Stretch) → ss ≡ ts → AreAlike ts us → AreAlike ss us
alike_by ss ts us e a = subst (λ vs. AreAlike vs us) (sym e) a

stretches_split : (r : Reading) (at : ℕ) (s : Bool) (bs : List ℕ) (xs : List Member) (i j : ℕ) (ys : List Member) → 1 ≤ j
    → AreAlike (all_stretches r at s bs (members (as_one xs i j ys))) (all_stretches r at s bs (members (as_two xs i j ys)))
stretches_split r at s bs [] i j ys some =
    let first : List Item = lexeme_items r.mode Chars (take i bs) in
    let second : List Item = lexeme_items r.mode Chars (take j (drop i bs)) in
    let rest : List Stretch = all_stretches r ((at + i) + j) (is_break (slice_index (drop i bs) (j - 1))) (drop j (drop i bs)) (members ys) in
    let z : at + (i + j) ≡ (at + i) + j = omega arith in
    alike_by (all_stretches r at s bs (members (as_one [] i j ys))) (own (first ++ second) ∷ rest) (own first ∷ own second ∷ rest)
    (ap₂ (λ (zs : List Item) (ss : List Stretch). own zs ∷ ss) (run_split r.mode i j bs)
    (ap (λ (p : ℕ). all_stretches r p (is_break (slice_index bs ((i + j) - 1))) (drop (i + j) bs) (members ys)) z
    ∙ ap₂ (λ (b : Bool) (cs : List ℕ). all_stretches r ((at + i) + j) b cs (members ys)) (ap is_break (last_byte bs i j some)) (sym (drop-drop j i bs))))
    (run_alike first second rest)
stretches_split r at s bs (x ∷ xs) i j ys some =
    let b : Bool = is_break (slice_index bs (width x - 1)) in
    alike_behind (stretches_of r at s bs x) (all_stretches r (at + width x) b (drop (width x) bs) (members (as_one xs i j ys)))
    (all_stretches r (at + width x) b (drop (width x) bs) (members (as_two xs i j ys)))
    (stretches_split r (at + width x) b (drop (width x) bs) xs i j ys some)

-- ---- two texts

text_is : (r : Reading) (bs : List ℕ) → text_members r.mode bs ≡ members (reduced (words r.mode bs))
unfolding text_members
text_is r bs = refl

-- of members that are those of both
record OfBoth (r : Reading) (at : ℕ) (s : Bool) (bs cs : List ℕ) (xs ys : List Member) : Type 0 where
  outputs : joined (outputs_of r s (bs ++ cs) (members (xs ++ ys)))
      ≡ then_output (joined (outputs_of r s bs (members xs))) (joined (outputs_of r (begins_line s bs xs) cs (members ys)))
  stretches : all_stretches r at s (bs ++ cs) (members (xs ++ ys))
      ≡ all_stretches r at s bs (members xs) ++ all_stretches r (at + length bs) (begins_line s bs xs) cs (members ys)

of_both : (r : Reading) (at : ℕ) (s : Bool) (bs cs : List ℕ) (xs ys : List Member) → AllFull xs → width_of_all (members xs) ≡ length bs → OfBoth r at s bs cs xs ys
of_both r at s bs cs xs ys full size =
    let le : width_of_all (members xs) ≤ length bs = omega (arith, size) in
    let line : begins_line s (bs ++ cs) xs ≡ begins_line s bs xs = line_front s bs cs xs full le in
    let rest : drop (width_of_all (members xs)) (bs ++ cs) ≡ cs = ap (λ (n : ℕ). drop n (bs ++ cs)) size ∙ drop-append_seam bs cs in
    record {
      outputs =
          ap joined (outputs_join r s (bs ++ cs) xs ys)
          ∙ joined_both (outputs_of r s (bs ++ cs) (members xs)) (outputs_of r (begins_line s (bs ++ cs) xs) (drop (width_of_all (members xs)) (bs ++ cs)) (members ys))
          ∙ ap₂ (λ (os ps : List Output). then_output (joined os) (joined ps)) (outputs_front r s bs cs (members xs) (all_full xs full) le)
          (ap₂ (λ (b : Bool) (zs : List ℕ). outputs_of r b zs (members ys)) line rest);
      stretches =
          stretches_join r at s (bs ++ cs) xs ys
          ∙ ap₂ (λ (ss ts : List Stretch). ss ++ ts) (stretches_front r at s bs cs (members xs) (all_full xs full) le)
          (ap (λ (n : ℕ). all_stretches r (at + n) (begins_line s (bs ++ cs) xs) (drop (width_of_all (members xs)) (bs ++ cs)) (members ys)) size
          ∙ ap₂ (λ (b : Bool) (zs : List ℕ). all_stretches r (at + length bs) b zs (members ys)) line rest);
    }

-- by members that have the same
record IsSame (r : Reading) (at : ℕ) (s : Bool) (zs : List ℕ) (ms : Members) : Type 0 where
  outputs : given_from r s zs ≡ joined (outputs_of r s zs ms)
  alike : AreAlike (stretches_from r at s zs) (all_stretches r at s zs ms)

pub same_self : (ss : List Stretch) → AreAlike ss ss
same_self ss = record { items = λ k. refl; outers = refl; texts = refl }

both_by : (r : Reading) (at : ℕ) (s : Bool) (bs cs : List ℕ)
    → IsSame r at s (bs ++ cs) (members (reduced (words r.mode bs) ++ reduced (words r.mode cs))) → GivesBoth r at s bs cs
both_by r at s bs cs h =
    let xs : List Member = reduced (words r.mode bs) in
    let ys : List Member = reduced (words r.mode cs) in
    let o = of_both r at s bs cs xs ys (full_text r.mode bs) (text_bytes r.mode bs) in
    let line : Bool = begins_line s bs xs in
    let e : all_stretches r at s (bs ++ cs) (members (xs ++ ys)) ≡ stretches_from r at s bs ++ stretches_from r (at + length bs) line cs =
    o.stretches ∙ ap₂ (λ ms ns. all_stretches r at s bs ms ++ all_stretches r (at + length bs) line cs ns) (sym (text_is r bs)) (sym (text_is r cs)) in
    let ss : List Stretch = stretches_from r at s bs in
    let ts : List Stretch = stretches_from r (at + length bs) line cs in
    record {
      line = line;
      outputs =
          h.outputs
          ∙ o.outputs
          ∙ ap₂ (λ ms ns. then_output (joined (outputs_of r s bs ms)) (joined (outputs_of r line cs ns))) (sym (text_is r bs)) (sym (text_is r cs));
      items = λ k. h.alike.items k ∙ ap (numbered k) e ∙ numbered_both k ss ts;
      outers = h.alike.outers ∙ ap outer_calls e ∙ outers_both ss ts;
      texts = h.alike.texts ∙ ap text_spans e ∙ spans_both ss ts;
    }

run_some : (ys : List Member) (n : ℕ) → AllFull (lexeme (Chars, n) ∷ ys) → 1 ≤ n
run_some ys n f = f.0

by_lexemes : (r : Reading) (at : ℕ) (s : Bool) (bs cs : List ℕ) → AreApart (words r.mode bs) (words r.mode cs)
    → AreMet (words r.mode bs) (words r.mode cs) (words r.mode (bs ++ cs))
    → IsSame r at s (bs ++ cs) (members (reduced (words r.mode bs) ++ reduced (words r.mode cs)))
by_lexemes r at s bs cs a (inl e) =
    let is : text_members r.mode (bs ++ cs) ≡ members (reduced (words r.mode bs) ++ reduced (words r.mode cs)) =
    text_is r (bs ++ cs) ∙ ap members (ap reduced e ∙ reduced_apart (words r.mode bs) (words r.mode cs) a) in
    record {
      outputs = ap (λ ms. joined (outputs_of r s (bs ++ cs) ms)) is;
      alike = alike_by (stretches_from r at s (bs ++ cs)) (all_stretches r at s (bs ++ cs) (members (reduced (words r.mode bs) ++ reduced (words r.mode cs))))
          (all_stretches r at s (bs ++ cs) (members (reduced (words r.mode bs) ++ reduced (words r.mode cs))))
          (ap (λ ms. all_stretches r at s (bs ++ cs) ms) is) (same_self (all_stretches r at s (bs ++ cs) (members (reduced (words r.mode bs) ++ reduced (words r.mode cs)))));
    }
by_lexemes r at s bs cs a (inr m) =
    let c = run_cut (words r.mode bs) (words r.mode cs) (words r.mode (bs ++ cs)) a m in
    let some : 1 ≤ m.second = run_some (reduced m.after) m.second (subst AllFull c.second_is (full_text r.mode cs)) in
    let xs : List Member = reduced m.before in
    let ys : List Member = reduced m.after in
    let is : text_members r.mode (bs ++ cs) ≡ members (as_one xs m.first m.second ys) = text_is r (bs ++ cs) ∙ ap members c.both_is in
    let so : reduced (words r.mode bs) ++ reduced (words r.mode cs) ≡ as_two xs m.first m.second ys =
    ap₂ (λ (us vs : List Member). us ++ vs) c.first_is c.second_is ∙ append_assoc xs (lexeme (Chars, m.first) ∷ []) (lexeme (Chars, m.second) ∷ ys) in
    record {
      outputs = ap (λ ms. joined (outputs_of r s (bs ++ cs) ms)) is
          ∙ outputs_split r s (bs ++ cs) xs m.first m.second ys some
          ∙ ap (λ us. joined (outputs_of r s (bs ++ cs) (members us))) (sym so);
      alike = subst (λ us. AreAlike (stretches_from r at s (bs ++ cs)) (all_stretches r at s (bs ++ cs) (members us))) (sym so)
          (alike_by (stretches_from r at s (bs ++ cs)) (all_stretches r at s (bs ++ cs) (members (as_one xs m.first m.second ys)))
          (all_stretches r at s (bs ++ cs) (members (as_two xs m.first m.second ys))) (ap (λ ms. all_stretches r at s (bs ++ cs) ms) is)
          (stretches_split r at s (bs ++ cs) xs m.first m.second ys some));
    }

pub gives_both : (r : Reading) (at : ℕ) (s : Bool) (bs cs : List ℕ) → AreReadApart r.mode bs cs → GivesBoth r at s bs cs
gives_both r at s bs cs h = both_by r at s bs cs (by_lexemes r at s bs cs h.apart h.lexemes)
