-- A style delimiter and a nowiki that is put: each is characters or one lexeme, calls nothing, and stays what it is beside text.
use Rattle.std.proofs.Common.{◌≡◌, ◌⊎◌, inl, inr, ℕ, Bool, true, false, List, [], ◌∷◌, ◌++◌, map, ap, refl, subst, sym, ◌∙◌}
use Rattle.std.specs.Str.{IsUtf8}
use Rattle.wt_span.specs.Bytes.{is_blank}
use Rattle.wt_span.specs.Items.{Item, sign}
use Rattle.wt_span.specs.Origins.{OuterCall}
use Rattle.wt_guards.specs.Content.{Thing}
use Rattle.wt_guards.specs.Guards.{is_mark, is_new_at_start, nowiki}
use Rattle.wt_expand.specs.PageCalls.{expanded_page}
use Rattle.wt_expand.specs.PageItems.{page_items}
use Rattle.wt_expand.specs.Work.{Pages}
use Rattle.wt_part_laws.specs.Expanded.{part_items}
use Rattle.wt_part_laws.specs.MovedCalls.{AreMoved}
use Rattle.wt_text_edit_laws.proofs.Between.ClosingTags.{Unclosed, unclosed_untagged}
use Rattle.wt_text_edit_laws.specs.NoCalls.{AreUnbraced}
use Rattle.wt_text_edit_laws.specs.TypedHeadings.{EndsWithout, is_equals_sign}
use Rattle.wt_beside_laws.proofs.CalmContents.{guard_utf8}
use Rattle.wt_beside_laws.proofs.Contents.{nowiki_reads}
use Rattle.wt_beside_laws.proofs.Firm.{alone_as}
use Rattle.wt_beside_laws.proofs.FlatAgain.{nowiki_kept}
use Rattle.wt_beside_laws.proofs.Made.Closes.{guard_closes}
use Rattle.wt_beside_laws.proofs.Marks.Shown.{kept_node}
use Rattle.wt_beside_laws.proofs.Styled.StyledAgain.{quotes_utf8}
use Rattle.wt_beside_laws.proofs.Styled.StyledNodes.{mark_kept, mark_page, put_node, put_closed, put_unbroken}
use Rattle.wt_beside_laws.specs.Called.{IsOwnNode, IsSeenIn}
use Rattle.wt_beside_laws.specs.Content.{guard_items}
use Rattle.wt_beside_laws.specs.FlatBlocks.{IsSealed}
use Rattle.wt_beside_laws.specs.NodeItems.{node_items}
use Rattle.wt_beside_laws.specs.PageSigns.{HasNoBreak}
use Rattle.wt_beside_laws.specs.Styled.{mark_source}
use Rattle.wt_beside_laws.specs.StyledNodes.{IsPut}
use Rattle.wt_called_edit_laws.proofs.Written.Joined.{calm_written}
use Rattle.wt_called_edit_laws.specs.Parts.{work_in}
use Rattle.wt_called_edit_laws.specs.Written.{BeginsOutward, EndsOutward, IsHeldInLine, IsOwnPart, IsReadThing, IsWrittenAs}

-- ---- its source

mark_line : (kind : Bool) → IsHeldInLine (mark_source kind)
mark_line true = inl (mark_kept true, subst HasNoBreak (sym (mark_page true)) (refl, (refl, (refl, tt))))
mark_line false = inl (mark_kept false, subst HasNoBreak (sym (mark_page false)) (refl, (refl, tt)))

nowiki_page : page_items nowiki ≡ guard_items true
nowiki_page = alone_as nowiki (guard_items true) nowiki_reads

nowiki_line : IsHeldInLine nowiki
nowiki_line = inl (nowiki_kept, subst HasNoBreak (sym nowiki_page) (tt, tt))

abbrev pub IsPutSource : List ℕ → Type 0
IsPutSource bs = ((kind : Bool) × (bs ≡ mark_source kind)) ⊎ (bs ≡ nowiki)

pub put_source : (t : Thing) → IsPut t → IsPutSource t.source
put_source t p = elim p [
  | inl m ↦ inl (m.0, m.2)
  | inr w ↦ inr w.1
]

-- what holds of delimiters and of the nowiki
by_source : (Q : List ℕ → Type 0) → ((kind : Bool) → Q (mark_source kind)) → Q nowiki → (bs : List ℕ) → IsPutSource bs → Q bs
by_source Q f n bs p = elim p [
  | inl m ↦ subst Q (sym m.1) (f m.0)
  | inr w ↦ subst Q (sym w) n
]

mark_begins : (kind : Bool) → BeginsOutward (mark_source kind)
mark_begins true = refl
mark_begins false = refl

nowiki_begins : BeginsOutward nowiki
unfolding nowiki
nowiki_begins = refl

mark_ends : (kind : Bool) → EndsOutward (mark_source kind)
mark_ends true = refl
mark_ends false = refl

nowiki_ends : EndsOutward nowiki
unfolding nowiki
nowiki_ends = refl

marks_unbraced : (kind : Bool) → AreUnbraced (page_items (mark_source kind))
marks_unbraced true = subst AreUnbraced (sym (mark_page true)) (refl, (refl, (refl, tt)))
marks_unbraced false = subst AreUnbraced (sym (mark_page false)) (refl, (refl, tt))

pub put_unbraced : (bs : List ℕ) → IsPutSource bs → AreUnbraced (page_items bs)
put_unbraced bs p = by_source (λ q. AreUnbraced (page_items q)) marks_unbraced (subst AreUnbraced (sym nowiki_page) tt) bs p

-- ---- it stays what it is

no_mark : (t : Thing) → IsPut t → is_mark t.role ≡ true → is_new_at_start t.role ≡ true
no_mark t p e = elim p [
  | inl m ↦ let no : false ≡ true = sym (ap is_mark m.1) ∙ e in cc
  | inr w ↦ let no : false ≡ true = sym (ap is_mark w.0) ∙ e in cc
]

pub put_read : (t : Thing) → IsPut t → IsReadThing t
put_read t p =
    let q : IsPutSource t.source = put_source t p in
    record {
      source = inl (by_source IsHeldInLine mark_line nowiki_line t.source q, put_node t p, no_mark t p);
      begins = by_source BeginsOutward mark_begins nowiki_begins t.source q;
      ends = by_source EndsOutward mark_ends nowiki_ends t.source q;
    }

pub put_own : (t : Thing) → IsPut t → IsOwnNode t (node_items t.source)
put_own t p = record { node = put_node t p; closed = put_closed t p; inside = no_mark t p; unbroken = put_unbroken t p }

-- ---- it is a part of the page by itself, and calls nothing

pub put_written : (pages : Pages) (bs : List ℕ) → IsPutSource bs → IsWrittenAs pages bs (λ i. page_items bs) [] []
put_written pages bs p = calm_written pages bs (put_unbraced bs p)

none_moved : (os : List OuterCall) → AreMoved [] os → os ≡ []
none_moved [] m = refl
none_moved (o ∷ os) m = absurd m

pub put_outer : (pages : Pages) (bs : List ℕ) → IsPutSource bs → (expanded_page pages bs).outer ≡ []
put_outer pages bs p = let w = put_written pages bs p in none_moved (expanded_page pages bs).outer w.calls_are

pub put_part : (pages : Pages) (bs : List ℕ) → IsPutSource bs → IsOwnPart pages bs
put_part pages bs p = let w = put_written pages bs p in w.part

pub put_work : (pages : Pages) (bs : List ℕ) → IsPutSource bs → work_in pages bs ≡ []
put_work pages bs p = let w = put_written pages bs p in w.work_is

mark_nodes : (kind : Bool) → node_items (mark_source kind) ≡ page_items (mark_source kind)
mark_nodes kind = kept_node (mark_source kind) (mark_kept kind)

pub put_items : (pages : Pages) (i : ℕ) (bs : List ℕ) → IsPutSource bs → part_items pages i bs ≡ node_items bs
put_items pages i bs p =
    let w = put_written pages bs p in
    w.items_are i ∙ sym (by_source (λ q. node_items q ≡ page_items q) mark_nodes (kept_node nowiki nowiki_kept) bs p)

-- ---- tags and bytes

mark_sealed : (kind : Bool) → IsSealed (mark_source kind)
mark_sealed true = record { closes = λ name us vs h k. unclosed_untagged name (mark_source true) vs refl k }
mark_sealed false = record { closes = λ name us vs h k. unclosed_untagged name (mark_source false) vs refl k }

pub put_sealed : (bs : List ℕ) → IsPutSource bs → IsSealed bs
put_sealed bs p = by_source IsSealed mark_sealed (record { closes = λ name us vs h k. guard_closes true name vs k }) bs p

mark_open : (kind : Bool) (name : List ℕ) → Unclosed name (mark_source kind ++ [])
mark_open true name = unclosed_untagged name (mark_source true) [] refl refl
mark_open false name = unclosed_untagged name (mark_source false) [] refl refl

pub put_open : (name bs : List ℕ) → IsPutSource bs → (us : List ℕ) × Unclosed name (bs ++ us)
put_open name bs p = ([], by_source (λ q. Unclosed name (q ++ [])) (λ kind. mark_open kind name) (guard_closes true name [] refl) bs p)

pub put_utf8 : (bs : List ℕ) → IsPutSource bs → IsUtf8 bs
put_utf8 bs p = by_source IsUtf8 quotes_utf8 (guard_utf8 true) bs p

-- ---- what is last in it is no blank and no `=`

abbrev EndsSeen : List Item → Type 0
EndsSeen xs = EndsWithout is_blank (map sign xs) × EndsWithout is_equals_sign (map sign xs)

mark_seen : (kind : Bool) → EndsSeen (page_items (mark_source kind))
mark_seen true = subst EndsSeen (sym (mark_page true)) (refl, refl)
mark_seen false = subst EndsSeen (sym (mark_page false)) (refl, refl)

pub put_seen : (pages : Pages) (t : Thing) → IsPut t → IsSeenIn pages t
put_seen pages t p = λ i.
    let q : IsPutSource t.source = put_source t p in
    let w = put_written pages t.source q in
    subst EndsSeen (sym (w.items_are i)) (by_source (λ bs. EndsSeen (page_items bs)) mark_seen (subst EndsSeen (sym nowiki_page) (refl, refl)) t.source q)
