-- A content among whose nodes are calls is read as its signs, one after the other; calls are taken for characters.
use Rattle.std.proofs.Common.{arith, ◌≡◌, inl, inr, ℕ, ◌==◌, Bool, true, false, List, [], ◌∷◌, ◌++◌, refl, sym, ap, ◌∙◌, subst, append-nil}
use Rattle.wt_span.specs.Items.{Item}
use Rattle.wt_guards.specs.Content.{ContentSign, Thing, letter, thing, nearest, ends_line}
use Rattle.wt_guards.specs.Guards.{Setting, nowiki_if, is_guarded, is_line_start, is_line_begun, is_new_at_start, spelled_from, spelled}
use Rattle.wt_guards.specs.Letters.{is_escaped, written_by}
use Rattle.wt_expand.specs.PageItems.{page_items}
use Rattle.wt_typed_blocks.proofs.Forms.{comment_other}
use Rattle.wt_typed_blocks.proofs.Lines.{unguarded_begins}
use Rattle.wt_text_edit_laws.specs.ReadContents.{BeginsUnclosed, IsFirmlyRead}
use Rattle.wt_text_edit_laws.specs.TextBetween.{StandsBehind}
use Rattle.wt_text_edit_laws.specs.TextBlocks.{TextBlock}
use Rattle.wt_text_edit_laws.proofs.Between.Fronts.{ReadsAfter, front_reads, behind_reads, reads_after, reads_either}
use Rattle.wt_text_edit_laws.proofs.Blocks.BlockReading.{uncommented_in}
use Rattle.wt_text_edit_laws.proofs.Prose.InFront.{Reads, reads_nothing, read_items}
use Rattle.wt_text_edit_laws.proofs.Prose.Uncommented.{BeginsUncommented, uncommented_other}
use Rattle.wt_beside_laws.specs.Content.{guard_items, letter_items, content_items}
use Rattle.wt_beside_laws.specs.Cuts.{own_glyphs}
use Rattle.wt_beside_laws.specs.NodeItems.{node_items}
use Rattle.wt_beside_laws.proofs.Contents.{guard_reads}
use Rattle.wt_beside_laws.proofs.LineKinds.{node_opens, new_guarded}
use Rattle.wt_beside_laws.proofs.NodeItems.{node_same}
use Rattle.wt_beside_laws.proofs.Marks.InLine.{InLine}
use Rattle.wt_called_edit_laws.specs.Written.{EndsOutward, IsCallSource, IsReadThing, AreReadThings}
use Rattle.wt_called_edit_laws.proofs.Written.Ends.{spelled_unclosed, source_after}
use Rattle.wt_called_edit_laws.proofs.Written.Levels.{Level, held_same, held_in, held_begins, letter_begins, guard_level, joined, letter_level, no_line_end, unmarked}

-- ---- a node

call_begins : (source rest : List ℕ) → IsCallSource source → BeginsUncommented (source ++ rest)
call_begins source rest c =
    subst (λ bs. BeginsUncommented (bs ++ rest)) (sym c.is)
    (uncommented_other 123 (c.others ++ rest) refl (comment_other 123 (c.others ++ rest) (omega arith)))

pub call_same : (source : List ℕ) → IsCallSource source → node_items source ≡ page_items source
call_same source c = node_same source (subst BeginsUncommented (append-nil source) (call_begins source [] c))

pub call_in : (source : List ℕ) → IsCallSource source → EndsOutward source → (rest : List ℕ) (xs : List Item) → BeginsUnclosed rest → InLine rest xs
    → InLine (source ++ rest) (node_items source ++ xs)
call_in source c e rest xs u r =
    subst (λ (ys : List Item). InLine (source ++ rest) (ys ++ xs)) (sym (call_same source c))
    (front_reads source rest xs (c.settles rest u) (subst (λ (a : Bool). ReadsAfter a rest xs) (sym (source_after source e)) r))

thing_in : (t : Thing) → IsReadThing t → (rest : List ℕ) (xs : List Item) → BeginsUnclosed rest → InLine rest xs
    → InLine (t.source ++ rest) (node_items t.source ++ xs)
thing_in t h rest xs u r = elim h.source [
  | inl k ↦ held_in t.source k.0 rest xs r
  | inr c ↦ call_in t.source c.0 h.ends rest xs u r
]

thing_ends : (t : Thing) → IsReadThing t → ends_line t.role ≡ false
thing_ends t h = elim h.source [
  | inl k ↦ no_line_end t.role k.2
  | inr c ↦ c.1
]

pub unguarded_old : (s : Setting) (before : List ContentSign) (t : Thing) (after : List ContentSign) → s.within ≡ false
    → is_line_start (nearest before) ≡ true → is_guarded s before (thing t ∷ after) ≡ false → is_new_at_start t.role ≡ false
unguarded_old s before t after w l g = by (is_new_at_start t.role) refl
  where
    by : (v : Bool) → is_new_at_start t.role ≡ v → v ≡ false
    by true i = let no : true ≡ false = sym (new_guarded s before t after w l i) ∙ g in cc
    by false i = refl

-- where a line starts, and nothing is put before it
thing_begins : (s : Setting) (before : List ContentSign) (t : Thing) (after : List ContentSign) → IsReadThing t → s.within ≡ false
    → is_line_start (nearest before) ≡ true → is_guarded s before (thing t ∷ after) ≡ false → (rest : List ℕ) → BeginsUncommented (t.source ++ rest)
thing_begins s before t after h w l g rest = elim h.source [
  | inl k ↦ held_begins t.source k.0
      (node_opens t.role (own_glyphs t) k.1 (unmarked t.role k.2 (unguarded_old s before t after w l g))) rest
  | inr c ↦ call_begins t.source rest c.0
]

-- ---- all of it

pub called_level : (s : Setting) (before signs : List ContentSign) (start : Bool) → s.within ≡ false → is_line_start (nearest before) ≡ start
    → (start ≡ true → is_line_begun before ≡ true) → AreReadThings signs → (rest : List ℕ) (xs : List Item) → BeginsUnclosed rest → Reads rest xs
    → Level start (spelled_from s before signs ++ rest) (content_items s before signs ++ xs)
called_level s before [] start w l b h rest xs v r =
    let all : Reads (nowiki_if (is_guarded s before []) ++ rest) (guard_items (is_guarded s before []) ++ xs) = guard_reads (is_guarded s before []) rest xs r in
    record { line = reads_after false (nowiki_if (is_guarded s before []) ++ rest) (guard_items (is_guarded s before []) ++ xs) all; begins = λ z. all.begins }
called_level s before (letter c ∷ after) start w l b h rest xs v r =
    let e : Bool = is_escaped s.within s.place before c after in
    let u : Bool = is_guarded s before (letter c ∷ after) in
    let more : List ℕ = spelled_from s (letter c ∷ before) after in
    let ms : List Item = content_items s (letter c ∷ before) after in
    let next : Level (c == 10) (more ++ rest) (ms ++ xs) = called_level s (letter c ∷ before) after (c == 10) w refl (λ z. z) h rest xs v r in
    let own : InLine (written_by e c ++ (more ++ rest)) (letter_items e c ++ (ms ++ xs)) = letter_level s before c after rest (ms ++ xs) (c == 10) refl next in
    joined start (nowiki_if u) (written_by e c) more rest (guard_items u) (letter_items e c) ms xs
    (guard_level u start (written_by e c ++ (more ++ rest)) (letter_items e c ++ (ms ++ xs)) own
    (λ g z. letter_begins s before c after rest e refl (unguarded_begins s before c after w (l ∙ z) (b z) g)))
called_level s before (thing t ∷ after) start w l b h rest xs v r =
    let u : Bool = is_guarded s before (thing t ∷ after) in
    let more : List ℕ = spelled_from s (thing t ∷ before) after in
    let ms : List Item = content_items s (thing t ∷ before) after in
    let next : Level false (more ++ rest) (ms ++ xs) =
    called_level s (thing t ∷ before) after false w (thing_ends t h.0) (λ z. cc) h.1 rest xs v r in
    joined start (nowiki_if u) t.source more rest (guard_items u) (node_items t.source) ms xs
    (guard_level u start (t.source ++ (more ++ rest)) (node_items t.source ++ (ms ++ xs))
    (thing_in t h.0 (more ++ rest) (ms ++ xs) (spelled_unclosed s (thing t ∷ before) after rest h.1 v) next.line)
    (λ g z. thing_begins s before t after h.0 w (l ∙ z) g (more ++ rest)))

-- with nothing behind it
pub alone_level : (s : Setting) (before signs : List ContentSign) (start : Bool) → s.within ≡ false → is_line_start (nearest before) ≡ start
    → (start ≡ true → is_line_begun before ≡ true) → AreReadThings signs → Level start (spelled_from s before signs) (content_items s before signs)
alone_level s before signs start w l b h =
    subst (λ (bs : List ℕ). Level start bs (content_items s before signs)) (append-nil (spelled_from s before signs))
    (subst (λ (xs : List Item). Level start (spelled_from s before signs ++ []) xs) (append-nil (content_items s before signs))
    (called_level s before signs start w l b h [] [] tt reads_nothing))

pub line_after : (t : Thing) → IsReadThing t → (q : List ℕ) (xs : List Item) → BeginsUnclosed q → InLine q xs → InLine (t.source ++ q) (node_items t.source ++ xs)
line_after t h q xs u r = thing_in t h q xs u r

-- behind a line break it is read as it is anywhere
pub thing_same : (t : Thing) → IsReadThing t → page_items t.source ≡ node_items t.source
thing_same t h = elim h.source [
  | inl k ↦ sym (held_same t.source k.0)
  | inr c ↦ sym (call_same t.source c.0)
]

pub no_end : (t : Thing) → IsReadThing t → ends_line t.role ≡ false
no_end t h = thing_ends t h

-- ---- so such a content is firm

called_reads : (s : Setting) (signs : List ContentSign) → s.within ≡ false → AreReadThings signs → (rest : List ℕ) (xs : List Item) → BeginsUnclosed rest
    → Reads rest xs → Reads (spelled s signs ++ rest) (content_items s [] signs ++ xs)
called_reads s signs w h rest xs u r =
    let l = called_level s [] signs true w refl (λ z. refl) h rest xs u r in
    reads_either (spelled s signs ++ rest) (content_items s [] signs ++ xs) (l.begins refl) l.line

pub called_alone : (s : Setting) (signs : List ContentSign) → s.within ≡ false → AreReadThings signs → page_items (spelled s signs) ≡ content_items s [] signs
called_alone s signs w h =
    ap page_items (sym (append-nil (spelled s signs)))
    ∙ read_items (spelled s signs ++ []) (content_items s [] signs ++ []) (called_reads s signs w h [] [] tt reads_nothing)
    ∙ append-nil (content_items s [] signs)

pub called_firm : (k : TextBlock) (s : Setting) (signs : List ContentSign) → s.within ≡ false → AreReadThings signs → IsFirmlyRead k (spelled s signs)
called_firm k s signs w h =
    let read : (rest : List ℕ) → StandsBehind rest → BeginsUnclosed rest → Reads (spelled s signs ++ rest) (content_items s [] signs ++ page_items rest) =
    λ rest b u. called_reads s signs w h rest (page_items rest) u (behind_reads rest b) in
    record {
      firm = λ rest b u j.
          read_items (spelled s signs ++ rest) (content_items s [] signs ++ page_items rest) (read rest b u)
          ∙ ap (λ (xs : List Item). xs ++ page_items rest) (sym (called_alone s signs w h));
      uncommented = λ rest b u j.
          let r = read rest b u in let begins = r.begins in uncommented_in k (spelled s signs) rest (record { uncommented = begins.is });
      unclosed = subst BeginsUnclosed (append-nil (spelled s signs)) (spelled_unclosed s [] signs [] h tt);
    }
