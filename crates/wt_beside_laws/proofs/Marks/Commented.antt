-- A content with comments and lines of comments is read as its signs, one after the other.
use Rattle.std.proofs.Common.{arith, ◌≡◌, ◌⊎◌, ℕ, ◌==◌, Bool, true, false, List, [], ◌∷◌, ◌++◌, refl, sym, ap, ap₂, ◌∙◌, subst, inl, inr, append_assoc, append-nil}
use Rattle.std.specs.Prelude.{◌&&◌, ◌||◌, not, Some, if◌then◌else◌}
use Rattle.std.proofs.lemmas.Bool.Decides.{nat_tests}
use Rattle.std.proofs.lemmas.Str.{encode_ascii}
use Rattle.wt_span.specs.Bytes.{is_blank}
use Rattle.wt_span.specs.Items.{Item}
use Rattle.wt_tree.specs.declared.edit_shape.Place.{Place}
use Rattle.wt_tree.specs.declared.edit_shape.Place.TheVariants as place
use Rattle.wt_guards.specs.declared.role.Role.{Role}
use Rattle.wt_guards.specs.declared.role.Role.TheVariants.{Link, External, Bare, Switch, Toggle, Mark, Group, Function, Node}
use Rattle.wt_guards.specs.declared.side.Side.TheVariants as side
use Rattle.wt_guards.specs.Content.{ContentSign, Thing, letter, thing, nearest, ends_line, side_of, is_function, is_group}
use Rattle.wt_guards.specs.Letters.{is_escaped, written_by}
use Rattle.wt_guards.specs.Guards.{Setting, nowiki, nowiki_if, has_brace_last, is_guarded, is_between_guard, is_parted, is_adjacent, is_start_guard, is_line_start, is_line_begun, is_empty_line, is_line_mark_next, is_new_at_start, is_end_guard, is_blank_guard, is_blank_last, is_past_node, is_nearest, is_group_or_bare, reached, is_new_text_next, is_mark as is_mark_role, spelled_from, spelled}
use Rattle.wt_guards.specs.Table.{hazard}
use Rattle.wt_guards.proofs.Escapes.{escapable}
use Rattle.wt_expand.specs.PageItems.{page_items}
use Rattle.wt_typed_blocks.proofs.Lines.{unguarded_begins, end_guarded}
use Rattle.wt_text_edit_laws.specs.LonePages.{page_chars}
use Rattle.wt_text_edit_laws.specs.ReadContents.{BeginsUnjoined}
use Rattle.wt_text_edit_laws.specs.TextBetween.{StandsBehind}
use Rattle.wt_text_edit_laws.proofs.Between.Fronts.{ReadsAfter, page_read, behind_reads, reads_after, reads_either}
use Rattle.wt_text_edit_laws.proofs.Prose.InFront.{Reads, reads_nothing}
use Rattle.wt_text_edit_laws.proofs.Prose.Uncommented.{BeginsUncommented}
use Rattle.wt_beside_laws.specs.Commented.{IsCommentSource, LexemesEnd, IsReadInLine, IsHeld}
use Rattle.wt_beside_laws.specs.Content.{AreKept, guard_items, letter_items, content_items}
use Rattle.wt_beside_laws.specs.Cuts.{own_glyphs}
use Rattle.wt_beside_laws.specs.Flat.{IsReadIn}
use Rattle.wt_beside_laws.specs.Kept.{IsKept}
use Rattle.wt_beside_laws.specs.Led.{MayBegin, BeginsUnled, AreLed}
use Rattle.wt_beside_laws.specs.NodeItems.{node_items}
use Rattle.wt_beside_laws.specs.Nodes.{IsNode, AreNodes}
use Rattle.wt_beside_laws.specs.PageSigns.{ends_break, HasNoBreak}
use Rattle.wt_beside_laws.specs.References.{ReferencesEnd}
use Rattle.wt_beside_laws.specs.Unjoined.{IsUnjoined, AllUnjoined}
use Rattle.wt_beside_laws.proofs.Contents.{further, guard_reads}
use Rattle.wt_beside_laws.proofs.LineKinds.{mark_begun, mark_unempty, new_guarded, empty_guarded, start_begun}
use Rattle.wt_beside_laws.proofs.Marks.Ends.{kept_unended, read_unended, comment_unended, unended_role}
use Rattle.wt_beside_laws.proofs.Marks.InLine.{InLine, InLineAs, comment_in, comment_line, break_after, kept_in, read_in, nowiki_in, letter_in, reference_ends}
use Rattle.wt_beside_laws.proofs.Marks.Shown.{IsShownFirst, shown_begins, IsSeen, shown_seen, seen_read, seen_back, seen_from, seen_comment, comment_node, line_node, kept_node, read_node, read_shown, thing_shown, comment_mark, line_mark, line_ends, letter_shown, nowiki_shown, in_order}
use Rattle.wt_beside_laws.proofs.NodeItems.{node_sources}
use Rattle.wt_beside_laws.proofs.Own.References.{node_references}

-- ---- a node in its line

source_in : (source : List ℕ) → IsCommentSource source → InLineAs source (node_items source)
source_in source h =
    subst (λ bs. InLineAs bs (node_items bs)) (sym h.is) (subst (InLineAs (60 ∷ h.others)) (sym (comment_node h.others h.comment)) (comment_in h.others h.comment))

kept_line : (source : List ℕ) → IsKept source → HasNoBreak (page_items source) → InLineAs source (node_items source)
kept_line source k n = subst (InLineAs source) (sym (kept_node source k)) (kept_in source k n)

read_line : (source more : List ℕ) (ys : List Item) → IsReadInLine source → ReferencesEnd source ⊎ BeginsUnjoined more → InLine more ys
    → InLine (source ++ more) (node_items source ++ ys)
read_line source more ys h j r =
    subst (λ (xs : List Item). InLine (source ++ more) (xs ++ ys)) (sym (read_node source h)) (read_in source more ys h j r)

-- no reference that may begin at its end goes on
node_joins : (t : Thing) (more rest : List ℕ) → IsNode t.role (own_glyphs t) → IsReadInLine t.source → IsUnjoined t.role more → BeginsUnjoined rest
    → ReferencesEnd t.source ⊎ BeginsUnjoined (more ++ rest)
node_joins t more rest n h u b =
    subst (λ (q : List ℕ). ReferencesEnd q ⊎ BeginsUnjoined (more ++ rest)) (node_sources t.source)
    (node_references t.role (node_items t.source) more rest (subst LexemesEnd (sym (read_node t.source h)) h.ends) n u b)

-- ---- what is put, and what is typed

-- where a line starts, or in it
either_level : (start : Bool) (bs : List ℕ) (xs : List Item) → BeginsUncommented bs → InLine bs xs → ReadsAfter start bs xs
either_level start bs xs u r = reads_after start bs xs (reads_either bs xs u r)

guard_level : (u start : Bool) (q : List ℕ) (xs : List Item) → InLine q xs → (u ≡ false → start ≡ true → ReadsAfter true q xs)
    → ReadsAfter start (nowiki_if u ++ q) (guard_items u ++ xs)
guard_level true start q xs r f =
    either_level start (nowiki ++ q) (guard_items true ++ xs) (shown_begins (nowiki ++ q) (nowiki_shown q)) (nowiki_in q xs r)
guard_level false false q xs r f = r
guard_level false true q xs r f = f refl refl

joined : (start : Bool) (g own more rest : List ℕ) (gs os ms xs : List Item) → ReadsAfter start (g ++ (own ++ (more ++ rest))) (gs ++ (os ++ (ms ++ xs)))
    → ReadsAfter start ((g ++ (own ++ more)) ++ rest) ((gs ++ (os ++ ms)) ++ xs)
joined start g own more rest gs os ms xs l =
    let is : (gs ++ (os ++ ms)) ++ xs ≡ gs ++ (os ++ (ms ++ xs)) = append_assoc gs (os ++ ms) xs ∙ ap (λ ys. gs ++ ys) (append_assoc os ms xs) in
    subst (λ ys. ReadsAfter start ys ((gs ++ (os ++ ms)) ++ xs)) (sym (in_order g own more rest))
    (subst (ReadsAfter start (g ++ (own ++ (more ++ rest)))) (sym is) l)

break_in : (s : Setting) (before after : List ContentSign) (q : List ℕ) (xs : List Item) → ReadsAfter true q xs
    → InLine (written_by (is_escaped s.within s.place before 10 after) 10 ++ q) (letter_items (is_escaped s.within s.place before 10 after) 10 ++ xs)
unfolding is_escaped
break_in s before after q xs r =
    subst (λ bs. InLine (bs ++ q) (page_chars bs ++ xs)) (sym (encode_ascii 10 (omega arith))) (break_after q xs r)

-- a character, before what is spelled behind it
letter_level : (s : Setting) (before : List ContentSign) (c : ℕ) (after : List ContentSign) (rest : List ℕ) (xs : List Item) (v : Bool) → (c == 10) ≡ v
    → ReadsAfter v (further s c before after ++ rest) xs
    → InLine (written_by (is_escaped s.within s.place before c after) c ++ (further s c before after ++ rest)) (letter_items (is_escaped s.within s.place before c after) c ++ xs)
letter_level s before c after rest xs true i l =
    let is : c ≡ 10 = grind (arith, nat_tests, i) in
    let P : ℕ → Type 0 = λ k. ReadsAfter true (further s k before after ++ rest) xs
    → InLine (written_by (is_escaped s.within s.place before k after) k ++ (further s k before after ++ rest)) (letter_items (is_escaped s.within s.place before k after) k ++ xs) in
    subst P (sym is) (λ k. break_in s before after (further s 10 before after ++ rest) xs k) l
letter_level s before c after rest xs false i l =
    letter_in s before c after rest xs (is_escaped s.within s.place before c after) refl
    (λ e. reference_ends c (escapable s.within s.place before c after e)) i l

-- ---- before a line of comments nothing is put

no_first : (t : Thing) → ends_line t.role ≡ true → (is_new_at_start t.role ≡ false) × (side_of t.role ≡ side.Node) × (is_mark_role t.role ≡ true) × (is_function t.role ≡ false)
no_first t e = by t.role e
  where
    by : (r : Role) → ends_line r ≡ true → (is_new_at_start r ≡ false) × (side_of r ≡ side.Node) × (is_mark_role r ≡ true) × (is_function r ≡ false)
    by Link e = cc
    by External e = cc
    by (Bare ends) e = cc
    by Switch e = cc
    by Toggle e = cc
    by (Mark ends began) e = (ap (λ (v : Bool). not v && not began) e, refl, refl, refl)
    by (Group g) e = cc
    by Function e = cc
    by Node e = cc

-- a mark behind a line of comments
unparted : (function mark other ends adjacent brace hazard : Bool) → function ≡ false → mark ≡ true → other ≡ true → ends ≡ true
    → (if function && brace then true else if mark && other then not ends && not adjacent else hazard) ≡ false
unparted function mark other ends adjacent brace hazard f m o e = rw (f, m, o, e) refl

between_none : (before : List ContentSign) (t : Thing) → is_line_start (nearest before) ≡ true → ends_line t.role ≡ true
    → is_between_guard (nearest before) (Some (thing t)) ≡ false
unfolding is_between_guard is_parted hazard
between_none [] t l e = refl
between_none (letter c ∷ before) t l e = let r = no_first t e in rw (r.1) refl
between_none (thing a ∷ before) t l e =
    let r = no_first t e in
    let q = no_first a l in
    unparted (is_function t.role) (is_mark_role a.role) (is_mark_role t.role) (ends_line a.role) (is_adjacent a t) (has_brace_last a.source) _ r.3 q.2 r.2 l

blank_none : (before : List ContentSign) → is_line_start (nearest before) ≡ true → is_blank_last (nearest before) ≡ false
blank_none [] l = refl
blank_none (letter c ∷ before) l = let is : c ≡ 10 = grind (arith, nat_tests, l) in subst (λ (k : ℕ). is_blank k ≡ false) (sym is) refl
blank_none (thing t ∷ before) l = refl

and_false : (a : Bool) → (a && false) ≡ false
and_false true = refl
and_false false = refl

start_none : (start empty next new begun : Bool) → next ≡ true → new ≡ false → ((start && ((empty && not next) || new)) || (begun && false)) ≡ false
start_none start empty next new begun n w =
    ap₂ (λ (u v : Bool). (start && ((empty && not u) || v)) || (begun && false)) n w
    ∙ ap (λ (u : Bool). (start && (u || false)) || (begun && false)) (and_false empty)
    ∙ ap (λ (u : Bool). u || (begun && false)) (and_false start)
    ∙ and_false begun

none_put : (between within start end blank : Bool) → between ≡ false → start ≡ false → end ≡ false → blank ≡ false
    → (between || (not within && (start || (end || blank)))) ≡ false
none_put between within start end blank b s e k =
    ap (λ (u : Bool). u || (not within && (start || (end || blank)))) b
    ∙ ap (λ (u : Bool). not within && (u || (end || blank))) s
    ∙ ap (λ (u : Bool). not within && (u || blank)) e
    ∙ ap (λ (u : Bool). not within && u) k
    ∙ and_false (not within)

line_unguarded : (s : Setting) (before : List ContentSign) (t : Thing) (after : List ContentSign) → is_line_start (nearest before) ≡ true → ends_line t.role ≡ true
    → is_guarded s before (thing t ∷ after) ≡ false
unfolding is_guarded is_start_guard is_end_guard is_blank_guard
line_unguarded s before t after l e =
    let r = no_first t e in
    none_put (is_between_guard (nearest before) (Some (thing t))) s.within (is_start_guard before (thing t ∷ after)) (is_end_guard s.source s.place before (thing t ∷ after))
    (is_blank_guard s.source before (thing t ∷ after)) (between_none before t l e)
    (start_none (is_line_start (nearest before)) (is_empty_line (thing t ∷ after)) (ends_line t.role) (is_new_at_start t.role) (is_line_begun before) e r.0) refl
    (ap (λ (u : Bool). u && (is_past_node before && (is_nearest is_group_or_bare before && (is_nearest is_group (thing t ∷ after)
    && is_new_text_next (reached s.source before) (Some (thing t)))))) (blank_none before l))

-- ---- a node

-- one that is read in a line: where a line begins with it, it is no line of comments
inline_level : (u start : Bool) (t : Thing) (more : List ℕ) (ys : List Item) → InLine (t.source ++ more) (node_items t.source ++ ys)
    → (u ≡ false → start ≡ true → IsSeen (t.source ++ more)) → ReadsAfter start (nowiki_if u ++ (t.source ++ more)) (guard_items u ++ (node_items t.source ++ ys))
inline_level u start t more ys line seen =
    guard_level u start (t.source ++ more) (node_items t.source ++ ys) line
    (λ g z. seen_read (t.source ++ more) (node_items t.source ++ ys) (seen g z) line)

unempty_by : (s : Setting) (before : List ContentSign) (t : Thing) (after : List ContentSign) (v : Bool) → s.within ≡ false → is_line_start (nearest before) ≡ true
    → ends_line t.role ≡ false → is_guarded s before (thing t ∷ after) ≡ false → is_empty_line (thing t ∷ after) ≡ v → v ≡ false
unempty_by s before t after true w l e g f = let no : true ≡ false = sym (empty_guarded s before (thing t ∷ after) w l f e) ∙ g in cc
unempty_by s before t after false w l e g f = refl

-- a comment that begins a line, on which something else is
comment_seen : (s : Setting) (before : List ContentSign) (t : Thing) (after : List ContentSign) (rest : List ℕ) (c : IsCommentSource t.source) → s.within ≡ false
    → is_line_start (nearest before) ≡ true → ends_line t.role ≡ false → is_guarded s before (thing t ∷ after) ≡ false → AreKept (thing t ∷ after) → AreNodes (thing t ∷ after)
    → IsSeen (t.source ++ (spelled_from s (thing t ∷ before) after ++ rest))
comment_seen s before t after rest c w l e g h n =
    let more : List ℕ = spelled_from s (thing t ∷ before) after ++ rest in
    let m : is_mark_role t.role ≡ true = comment_mark t c.others c.is c.comment n.0 in
    let some : is_empty_line (thing t ∷ after) ≡ false = unempty_by s before t after (is_empty_line (thing t ∷ after)) w l e g refl in
    let begun : is_line_begun (thing t ∷ before) ≡ true = mark_begun t.role (is_line_begun before) m (start_begun before l) in
    subst (λ bs. IsSeen (bs ++ more)) (sym c.is)
    (seen_comment c.others more c.comment
    (seen_from s (thing t ∷ before) after w begun (mark_unempty t.role (is_empty_line after) m some) h.1 n.1 rest))

thing_level : (s : Setting) (before : List ContentSign) (t : Thing) (after : List ContentSign) (start : Bool) (rest : List ℕ) (ys : List Item) → s.within ≡ false
    → is_line_start (nearest before) ≡ start → AreKept (thing t ∷ after) → AreNodes (thing t ∷ after) → AreLed before (thing t ∷ after)
    → (IsReadInLine t.source → ReferencesEnd t.source ⊎ BeginsUnjoined (spelled_from s (thing t ∷ before) after ++ rest)) → IsHeld t.source
    → ((v : Bool) → ends_line t.role ≡ v → ReadsAfter v (spelled_from s (thing t ∷ before) after ++ rest) ys)
    → ReadsAfter start (nowiki_if (is_guarded s before (thing t ∷ after)) ++ (t.source ++ (spelled_from s (thing t ∷ before) after ++ rest)))
    (guard_items (is_guarded s before (thing t ∷ after)) ++ (node_items t.source ++ ys))
thing_level s before t after start rest ys w l h n d j (inl k) go =
    let more : List ℕ = spelled_from s (thing t ∷ before) after ++ rest in
    inline_level (is_guarded s before (thing t ∷ after)) start t more ys
    (kept_line t.source k.0 k.1 more ys (go false (unended_role t.role t.source h.0.1 (kept_unended t.source k.0 k.1))))
    (λ g z. shown_seen (t.source ++ more) (thing_shown t k.0 n.0 more))
thing_level s before t after start rest ys w l h n d j (inr (inl c)) go =
    let more : List ℕ = spelled_from s (thing t ∷ before) after ++ rest in
    let e : ends_line t.role ≡ false = unended_role t.role t.source h.0.1 (ap ends_break c.is ∙ comment_unended (60 ∷ c.others) c.comment.ends) in
    inline_level (is_guarded s before (thing t ∷ after)) start t more ys (source_in t.source c more ys (go false e))
    (λ g z. comment_seen s before t after rest c w (l ∙ z) e g h n)
thing_level s before t after start rest ys w l h n d j (inr (inr (inr k))) go =
    let more : List ℕ = spelled_from s (thing t ∷ before) after ++ rest in
    inline_level (is_guarded s before (thing t ∷ after)) start t more ys
    (read_line t.source more ys k (j k) (go false (unended_role t.role t.source h.0.1 (read_unended t.source k))))
    (λ g z. shown_seen (t.source ++ more) (read_shown t.source k more))
thing_level s before t after start rest ys w l h n d j (inr (inr (inl c))) go =
    let more : List ℕ = spelled_from s (thing t ∷ before) after ++ rest in
    let e : ends_line t.role ≡ true = line_ends t c n.0 h.0.1 in
    let z : is_line_start (nearest before) ≡ true = d.0 e in
    let line : ReadsAfter true (t.source ++ more) (node_items t.source ++ ys) =
    subst (λ is. ReadsAfter true (t.source ++ more) (is ++ ys)) (sym (line_node t.source c)) (comment_line t.source more ys c (go true e)) in
    subst (λ (v : Bool). ReadsAfter v (nowiki_if (is_guarded s before (thing t ∷ after)) ++ (t.source ++ more))
    (guard_items (is_guarded s before (thing t ∷ after)) ++ (node_items t.source ++ ys))) (sym z ∙ l)
    (subst (λ (u : Bool). ReadsAfter true (nowiki_if u ++ (t.source ++ more)) (guard_items u ++ (node_items t.source ++ ys))) (sym (line_unguarded s before t after z e)) line)

-- ---- all of it

content_level : (s : Setting) (before signs : List ContentSign) (start : Bool) → s.within ≡ false → is_line_start (nearest before) ≡ start
    → AreKept signs → AreNodes signs → AllUnjoined s before signs → AreLed before signs → (rest : List ℕ) (xs : List Item) → BeginsUnjoined rest → Reads rest xs
    → ReadsAfter start (spelled_from s before signs ++ rest) (content_items s before signs ++ xs)
content_level s before [] start w l h n u d rest xs b r =
    reads_after start (nowiki_if (is_guarded s before []) ++ rest) (guard_items (is_guarded s before []) ++ xs) (guard_reads (is_guarded s before []) rest xs r)
content_level s before (letter c ∷ after) start w l h n j d rest xs b r =
    let e : Bool = is_escaped s.within s.place before c after in
    let u : Bool = is_guarded s before (letter c ∷ after) in
    let more : List ℕ = further s c before after in
    let ms : List Item = content_items s (letter c ∷ before) after in
    let next : ReadsAfter (c == 10) (more ++ rest) (ms ++ xs) = content_level s (letter c ∷ before) after (c == 10) w refl h n j d rest xs b r in
    let own : InLine (written_by e c ++ (more ++ rest)) (letter_items e c ++ (ms ++ xs)) = letter_level s before c after rest (ms ++ xs) (c == 10) refl next in
    joined start (nowiki_if u) (written_by e c) more rest (guard_items u) (letter_items e c) ms xs
    (guard_level u start (written_by e c ++ (more ++ rest)) (letter_items e c ++ (ms ++ xs)) own
    (λ g z. seen_read (written_by e c ++ (more ++ rest)) (letter_items e c ++ (ms ++ xs))
    (shown_seen (written_by e c ++ (more ++ rest))
    (letter_shown s before c after rest e refl (unguarded_begins s before c after w (l ∙ z) (start_begun before (l ∙ z)) g))) own))
content_level s before (thing t ∷ after) start w l h n j d rest xs b r =
    let u : Bool = is_guarded s before (thing t ∷ after) in
    let more : List ℕ = spelled_from s (thing t ∷ before) after in
    let ms : List Item = content_items s (thing t ∷ before) after in
    joined start (nowiki_if u) t.source more rest (guard_items u) (node_items t.source) ms xs
    (thing_level s before t after start rest (ms ++ xs) w l h n d (λ k. node_joins t more rest n.0 k j.0 b) h.0.0
    (λ v e. content_level s (thing t ∷ before) after v w e h.1 n.1 j.1 d.1 rest xs b r))

-- ---- what begins it

guard_shown : (u : Bool) (q : List ℕ) → (u ≡ false → IsShownFirst q) → IsShownFirst (nowiki_if u ++ q)
guard_shown true q f = nowiki_shown q
guard_shown false q f = f refl

held_shown : (t : Thing) (more : List ℕ) (v : Bool) → is_mark_role t.role ≡ v → v ≡ false → IsNode t.role (own_glyphs t) → IsHeld t.source → IsShownFirst (t.source ++ more)
held_shown t more v e f n (inl k) = thing_shown t k.0 n more
held_shown t more v e f n (inr (inl c)) = let no : true ≡ false = sym (comment_mark t c.others c.is c.comment n) ∙ e ∙ f in cc
held_shown t more v e f n (inr (inr (inr k))) = read_shown t.source k more
held_shown t more v e f n (inr (inr (inl c))) = let no : true ≡ false = sym (line_mark t c n) ∙ e ∙ f in cc

content_shown : (s : Setting) (signs : List ContentSign) → s.within ≡ false → BeginsUnled place.Paragraph signs → AreKept signs → AreNodes signs → (rest : List ℕ)
    → IsShownFirst (spelled s signs ++ rest)
content_shown s [] w b h n rest = subst (λ (u : Bool). IsShownFirst (nowiki_if u ++ rest)) (sym (end_guarded s [] w refl)) (nowiki_shown rest)
content_shown s (letter c ∷ after) w b h n rest =
    let e : Bool = is_escaped s.within s.place [] c after in
    let u : Bool = is_guarded s [] (letter c ∷ after) in
    let more : List ℕ = further s c [] after in
    subst IsShownFirst (sym (in_order (nowiki_if u) (written_by e c) more rest))
    (guard_shown u (written_by e c ++ (more ++ rest)) (λ g. letter_shown s [] c after rest e refl (unguarded_begins s [] c after w refl refl g)))
content_shown s (thing t ∷ after) w b h n rest =
    let u : Bool = is_guarded s [] (thing t ∷ after) in
    let more : List ℕ = spelled_from s (thing t ∷ []) after in
    subst IsShownFirst (sym (in_order (nowiki_if u) t.source more rest))
    (guard_shown u (t.source ++ (more ++ rest))
    (λ g. held_shown t (more ++ rest) (is_mark_role t.role) refl (unmarked g (is_mark_role t.role) refl) n.0 h.0.0))
  where
    unmarked : is_guarded s [] (thing t ∷ after) ≡ false → (v : Bool) → is_mark_role t.role ≡ v → v ≡ false
    unmarked g true e = let no : true ≡ false = sym (new_guarded s [] t after w refl (b e)) ∙ g in cc
    unmarked g false e = refl

-- ---- what is first is no line of comments

new_unended : (r : Role) → (is_mark_role r ≡ true → is_new_at_start r ≡ true) → ends_line r ≡ false
new_unended Link h = refl
new_unended External h = refl
new_unended (Bare ends) h = refl
new_unended Switch h = refl
new_unended Toggle h = refl
new_unended (Mark true began) h = let no : false ≡ true = h refl in cc
new_unended (Mark false began) h = refl
new_unended (Group g) h = refl
new_unended Function h = refl
new_unended Node h = refl

may_unended : (p : Place) (r : Role) → MayBegin p r → ends_line r ≡ false
may_unended place.Paragraph r h = new_unended r h
may_unended place.Heading r h = h
may_unended place.Item r h = new_unended r h
may_unended place.Term r h = new_unended r h
may_unended place.Cell r h = new_unended r h
may_unended place.Header r h = new_unended r h

no_line_next : (p : Place) (signs : List ContentSign) → BeginsUnled p signs → is_line_mark_next (nearest signs) ≡ false
no_line_next p [] h = refl
no_line_next p (letter c ∷ after) h = refl
no_line_next p (thing t ∷ after) h = may_unended p t.role h

put_seen : (u : Bool) (own more rest : List ℕ) → u ≡ true → IsSeen ((nowiki_if u ++ (own ++ more)) ++ rest)
put_seen u own more rest g =
    subst IsSeen (sym (in_order (nowiki_if u) own more rest))
    (subst (λ (v : Bool). IsSeen (nowiki_if v ++ (own ++ (more ++ rest)))) (sym g)
    (shown_seen (nowiki ++ (own ++ (more ++ rest))) (nowiki_shown (own ++ (more ++ rest)))))

guarded_seen : (s : Setting) (signs : List ContentSign) (rest : List ℕ) → is_guarded s [] signs ≡ true → IsSeen (spelled s signs ++ rest)
guarded_seen s [] rest g = subst (λ (u : Bool). IsSeen (nowiki_if u ++ rest)) (sym g) (shown_seen (nowiki ++ rest) (nowiki_shown rest))
guarded_seen s (letter c ∷ after) rest g =
    put_seen (is_guarded s [] (letter c ∷ after)) (written_by (is_escaped s.within s.place [] c after) c) (further s c [] after) rest g
guarded_seen s (thing t ∷ after) rest g = put_seen (is_guarded s [] (thing t ∷ after)) t.source (spelled_from s (thing t ∷ []) after) rest g

-- its first line isn't one of comments alone: an empty one begins with what is put
content_seen : (s : Setting) (signs : List ContentSign) → s.within ≡ false → BeginsUnled s.place signs → AreKept signs → AreNodes signs → (rest : List ℕ)
    → IsSeen (spelled s signs ++ rest)
content_seen s signs w b h n rest = by (is_empty_line signs) refl
  where
    by : (v : Bool) → is_empty_line signs ≡ v → IsSeen (spelled s signs ++ rest)
    by true e = guarded_seen s signs rest (empty_guarded s [] signs w refl e (no_line_next s.place signs b))
    by false e = seen_from s [] signs w refl e h n rest

-- So a content of a paragraph or a heading is read before whatever is read behind it, if no reference goes on with that, where no line begins before it.
pub content_in : (s : Setting) (signs : List ContentSign) → IsReadIn s signs → (rest : List ℕ) (xs : List Item) → BeginsUnjoined rest → Reads rest xs
    → InLine (spelled s signs ++ rest) (content_items s [] signs ++ xs)
content_in s signs k rest xs j r =
    let bs : List ℕ = spelled s signs ++ rest in
    seen_back bs (content_items s [] signs ++ xs) (content_seen s signs k.within k.led.first k.kept k.nodes rest)
    (content_level s [] signs true k.within refl k.kept k.nodes k.unjoined k.led.others rest xs j r)

-- and that of a paragraph where one does, too
pub content_reads : (s : Setting) (signs : List ContentSign) → s.place ≡ place.Paragraph → IsReadIn s signs → (rest : List ℕ) (xs : List Item) → BeginsUnjoined rest
    → Reads rest xs → Reads (spelled s signs ++ rest) (content_items s [] signs ++ xs)
content_reads s signs e k rest xs j r =
    let bs : List ℕ = spelled s signs ++ rest in
    let f : IsShownFirst bs = content_shown s signs k.within (subst (λ (p : Place). BeginsUnled p signs) e k.led.first) k.kept k.nodes rest in
    reads_either bs (content_items s [] signs ++ xs) (shown_begins bs f) (content_in s signs k rest xs j r)

pub content_alone : (s : Setting) (signs : List ContentSign) → IsReadIn s signs → page_items (spelled s signs) ≡ content_items s [] signs
content_alone s signs k =
    ap page_items (sym (append-nil (spelled s signs)))
    ∙ page_read (spelled s signs ++ []) (content_items s [] signs ++ []) (content_in s signs k [] [] tt reads_nothing)
    ∙ append-nil (content_items s [] signs)

pub content_before : (s : Setting) (signs : List ContentSign) (rest : List ℕ) → IsReadIn s signs → StandsBehind rest → BeginsUnjoined rest
    → page_items (spelled s signs ++ rest) ≡ content_items s [] signs ++ page_items rest
content_before s signs rest k b j =
    page_read (spelled s signs ++ rest) (content_items s [] signs ++ page_items rest) (content_in s signs k rest (page_items rest) j (behind_reads rest b))
