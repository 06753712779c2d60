-- A paragraph of texts beside calls, as it is written, is a content in a folder, and a new one in the place of another one whose nodes it has; those that don't call may go.
use Rattle.std.proofs.Common.{◌≡◌, inl, inr, ℕ, ◌==◌, Bool, true, false, None, List, [], ◌∷◌, ◌++◌, refl, sym, ap, ap₂, ◌∙◌, subst, append-nil, append_assoc}
use Rattle.std.specs.Prelude.{◌||◌, not, if◌then◌else◌}
use Rattle.std.specs.Str.{IsUtf8}
use Rattle.std.proofs.lemmas.Str.{IsUtf8-append}
use Rattle.wt_span.specs.Bytes.{is_blank, is_break}
use Rattle.wt_span.specs.Items.{Item, char, whole, sources}
use Rattle.wt_span.specs.Origins.{OuterCall}
use Rattle.wt_guards.specs.Content.{ContentSign, Thing, letter, thing}
use Rattle.wt_guards.specs.Guards.{Setting, nowiki_if, is_guarded, spelled_from, spelled}
use Rattle.wt_guards.specs.Letters.{is_escaped, written_by}
use Rattle.wt_expand.specs.PageItems.{page_items}
use Rattle.wt_expand.specs.PageCalls.{expanded_page}
use Rattle.wt_expand.specs.Work.{Pages, Entry}
use Rattle.wt_expand.proofs.PageLaws.{page_sources}
use Rattle.wt_inline.proofs.HeldLaws.{sources_append}
use Rattle.wt_part_laws.specs.Expanded.{part_items}
use Rattle.wt_typed_blocks.proofs.Lines.{unguarded_begins}
use Rattle.wt_part_laws.specs.MovedCalls.{IsMoved, AreMoved}
use Rattle.wt_lines.specs.Lines.{lines}
use Rattle.wt_text_edit_laws.specs.ReadContents.{begins_shown, BeginsParagraph, IsReadContent, IsFirmlyRead}
use Rattle.wt_text_edit_laws.specs.TextBetween.{StandsBehind}
use Rattle.wt_text_edit_laws.specs.TextBlocks.{a_paragraph}
use Rattle.wt_text_edit_laws.proofs.Cuts.Seen.{stands_begins}
use Rattle.wt_text_edit_laws.proofs.Paragraphs.SeenLines.{texts_seen}
use Rattle.wt_text_edit_laws.proofs.Between.ClosingTags.{Unclosed, unclosed_behind}
use Rattle.wt_text_edit_laws.proofs.Prose.InFront.{Reads, reads_nothing, read_break, read_items}
use Rattle.wt_beside_laws.specs.Called.{items_with, owns_in, HasUncalled, IsCalledIn, IsCalledContent}
use Rattle.wt_beside_laws.specs.Content.{guard_items, letter_items, content_items}
use Rattle.wt_beside_laws.specs.Cuts.{own_glyphs}
use Rattle.wt_beside_laws.specs.Lines.{AreCharacters}
use Rattle.wt_beside_laws.specs.NodeItems.{node_items}
use Rattle.wt_beside_laws.specs.Stood.{things}
use Rattle.wt_beside_laws.proofs.CalmContents.{guard_utf8, letter_utf8}
use Rattle.wt_beside_laws.proofs.Each.{Each}
use Rattle.wt_beside_laws.proofs.LineKinds.{Opens, guard_opens, letter_opens, items_open, node_opens}
use Rattle.wt_beside_laws.proofs.Made.Closes.{OpenFor, content_closes}
use Rattle.wt_beside_laws.proofs.Groups.CalledLines.{items_own}
use Rattle.wt_beside_laws.proofs.Groups.CalledParagraphs.{called_lines, called_unled}
use Rattle.wt_beside_laws.proofs.Groups.Folders.{called_in}
use Rattle.wt_called_edit_laws.specs.CalledContents.{AreTextItems}
use Rattle.wt_called_edit_laws.specs.CallingBlocks.{IsContentIn, IsNewContentIn}
use Rattle.wt_called_edit_laws.specs.InCells.{AreTextLines}
use Rattle.wt_called_edit_laws.specs.Parts.{left_of, work_in}
use Rattle.wt_called_edit_laws.specs.Retyped.{AreSomeOf}
use Rattle.wt_called_edit_laws.specs.Written.{IsCallSource, IsReadThing, AreReadThings, written_calls, written_work}
use Rattle.wt_called_edit_laws.specs.WrittenAnew.{node_sources, AreUtf8, StayButForOthers, IsWrittenBeside}
use Rattle.wt_called_edit_laws.proofs.Parts.LessBraces.{none_less}
use Rattle.wt_called_edit_laws.proofs.MovedOuters.{calls_after}
use Rattle.wt_called_edit_laws.proofs.Written.Held.{written_gives}
use Rattle.wt_called_edit_laws.proofs.Written.Levels.{unmarked}
use Rattle.wt_called_edit_laws.proofs.Written.Reads.{call_same, unguarded_old, called_alone, called_firm}
use Rattle.wt_called_edit_laws.proofs.Written.Signs.{content_written}

-- ---- UTF-8

pub from_utf8 : (s : Setting) (before signs : List ContentSign) → AreCharacters signs → AreUtf8 (node_sources signs) → IsUtf8 (spelled_from s before signs)
from_utf8 s before [] v h = guard_utf8 (is_guarded s before [])
from_utf8 s before (letter c ∷ after) v h =
    let e : Bool = is_escaped s.within s.place before c after in
    let rest : List ℕ = spelled_from s (letter c ∷ before) after in
    IsUtf8-append (nowiki_if (is_guarded s before (letter c ∷ after))) (written_by e c ++ rest) (guard_utf8 (is_guarded s before (letter c ∷ after)))
    (IsUtf8-append (written_by e c) rest (letter_utf8 s before after c e refl v.0) (from_utf8 s (letter c ∷ before) after v.1 h))
from_utf8 s before (thing t ∷ after) v h =
    let rest : List ℕ = spelled_from s (thing t ∷ before) after in
    IsUtf8-append (nowiki_if (is_guarded s before (thing t ∷ after))) (t.source ++ rest) (guard_utf8 (is_guarded s before (thing t ∷ after)))
    (IsUtf8-append t.source rest h.0 (from_utf8 s (thing t ∷ before) after v h.1))

-- ---- its first line isn't blank

shown_byte : (t v : Bool) (xs : List Item) → t ≡ false → v ≡ false → (if t then begins_shown xs else not v) ≡ true
shown_byte true v xs e f = cc
shown_byte false true xs e f = cc
shown_byte false false xs e f = refl

pub opens_shown : (xs : List Item) → Opens xs → begins_shown xs ≡ true
opens_shown [] h = absurd h
opens_shown (whole f o bs ∷ xs) h = refl
opens_shown (char o b ∷ xs) h = shown_byte (is_blank b) (is_break b) xs (neither (b == 32) (b == 9) h.space h.tab) h.break
  where
    neither : (t v : Bool) → t ≡ false → v ≡ false → (t || v) ≡ false
    neither true v e f = e
    neither false v e f = f

-- by its first byte
none_empty : (b : ℕ) (bs : List ℕ) → [] ≡ b ∷ bs → ⊥
none_empty b bs e = cc

shown_by_source : (xs : List Item) (b : ℕ) (bs : List ℕ) → sources xs ≡ b ∷ bs → is_blank b ≡ false → is_break b ≡ false → begins_shown xs ≡ true
shown_by_source [] b bs e f g = absurd (none_empty b bs e)
shown_by_source (whole k o cs ∷ xs) b bs e f g = refl
shown_by_source (char o c ∷ xs) b bs e f g =
    let is : c ≡ b = same_head c b (sources xs) bs e in shown_byte (is_blank c) (is_break c) xs (ap is_blank is ∙ f) (ap is_break is ∙ g)
  where
    same_head : (c b : ℕ) (cs bs : List ℕ) → c ∷ cs ≡ b ∷ bs → c ≡ b
    same_head c b cs bs e = cc

call_shown : (source : List ℕ) (more : List Item) → IsCallSource source → begins_shown (node_items source ++ more) ≡ true
call_shown source more c =
    ap (λ (xs : List Item). begins_shown (xs ++ more)) (call_same source c)
    ∙ shown_by_source (page_items source ++ more) 123 (c.others ++ sources more)
    (sources_append (page_items source) more ∙ ap (λ (bs : List ℕ). bs ++ sources more) (page_sources source ∙ c.is)) refl refl

-- a node that begins it, where nothing is put before
pub thing_shown : (s : Setting) (t : Thing) (after : List ContentSign) (more : List Item) → s.within ≡ false → is_guarded s [] (thing t ∷ after) ≡ false → IsReadThing t
    → begins_shown (node_items t.source ++ more) ≡ true
thing_shown s t after more w g h = elim h.source [
  | inl k ↦
      opens_shown (node_items t.source ++ more)
      (items_open (node_items t.source) more (node_opens t.role (own_glyphs t) k.1 (unmarked t.role k.2 (unguarded_old s [] t after w refl g))))
  | inr c ↦ call_shown t.source more c.0
]

signs_shown : (s : Setting) (signs : List ContentSign) → s.within ≡ false → AreCharacters signs → AreReadThings signs → HasUncalled s [] signs
    → begins_shown (content_items s [] signs) ≡ true
signs_shown s [] w v r b = ap (λ (u : Bool). begins_shown (guard_items u)) b
signs_shown s (letter c ∷ after) w v r b =
    let e : Bool = is_escaped s.within s.place [] c after in
    let more : List Item = content_items s (letter c ∷ []) after in
    let u : Bool = is_guarded s [] (letter c ∷ after) in
    opens_shown (guard_items u ++ (letter_items e c ++ more))
    (guard_opens u (letter_items e c ++ more) (λ g. letter_opens s [] c after more e refl v.0 (unguarded_begins s [] c after w refl refl g)))
signs_shown s (thing t ∷ after) w v r b = by (is_guarded s [] (thing t ∷ after)) refl
  where
    by : (u : Bool) → is_guarded s [] (thing t ∷ after) ≡ u
        → begins_shown (guard_items u ++ (node_items t.source ++ content_items s (thing t ∷ []) after)) ≡ true
    by true g =
        let more : List Item = node_items t.source ++ content_items s (thing t ∷ []) after in
        opens_shown (guard_items true ++ more) (guard_opens true more (λ e. let no : true ≡ false = e in absurd (cc)))
    by false g = thing_shown s t after (content_items s (thing t ∷ []) after) w g r.0

-- ---- it is read by itself

pub nothing_stands : StandsBehind []
nothing_stands = let b = reads_nothing.begins in record { uncommented = b.is }

pub break_read : Reads (10 ∷ []) (char None 10 ∷ [])
break_read = read_break [] [] reads_nothing

pub break_stands : StandsBehind (10 ∷ [])
break_stands = let b = break_read.begins in record { uncommented = b.is }

ended_so : (pages : Pages) (s : Setting) (signs : List ContentSign) → IsWrittenBeside pages s signs
    → page_items (spelled s signs ++ 10 ∷ []) ≡ page_items (spelled s signs) ++ char None 10 ∷ []
ended_so pages s signs h =
    let c : IsCalledIn pages s signs = h.called in
    let f : IsFirmlyRead a_paragraph (spelled s signs) = called_firm a_paragraph s signs c.of_block h.read in
    f.firm (10 ∷ []) break_stands refl refl ∙ ap (λ (xs : List Item). page_items (spelled s signs) ++ xs) (read_items (10 ∷ []) (char None 10 ∷ []) break_read)

begins_so : (pages : Pages) (s : Setting) (signs : List ContentSign) → IsWrittenBeside pages s signs → BeginsParagraph (spelled s signs)
begins_so pages s signs h =
    let c : IsCalledIn pages s signs = h.called in
    let f : IsFirmlyRead a_paragraph (spelled s signs) = called_firm a_paragraph s signs c.of_block h.read in
    stands_begins (spelled s signs) (subst StandsBehind (append-nil (spelled s signs)) (f.uncommented [] nothing_stands tt tt))
    (f.uncommented (10 ∷ []) break_stands refl refl) (ended_so pages s signs h)
    (subst (λ (xs : List Item). begins_shown xs ≡ true) (sym (called_alone s signs c.of_block h.read))
    (signs_shown s signs c.of_block c.characters h.read c.some))

read_so : (pages : Pages) (s : Setting) (signs : List ContentSign) → IsWrittenBeside pages s signs → IsReadContent a_paragraph (spelled s signs)
read_so pages s signs h =
    let c : IsCalledIn pages s signs = h.called in
    record {
      utf8 = from_utf8 s [] signs c.characters h.utf8;
      ended = ended_so pages s signs h;
      unended = refl;
      begins = begins_so pages s signs h;
    }

-- ---- and is lines of text, by what its calls give

given_items : (pages : Pages) (i : ℕ) (s : Setting) (signs : List ContentSign) → IsWrittenBeside pages s signs
    → part_items pages i (spelled s signs) ≡ items_with s [] signs (owns_in pages i signs)
given_items pages i s signs h = written_gives pages i s signs h.called h.read h.parts

text_items : (s : Setting) (signs : List ContentSign) (owns : List (List Item)) → IsCalledContent s signs owns → AreTextItems (items_with s [] signs owns)
text_items s signs owns h =
    let xs : List Item = items_with s [] signs owns in
    record { seen = texts_seen 0 (lines xs) (called_lines 0 s signs owns h); unled = called_unled s signs owns h; own_breaks = items_own s [] signs owns h.given }

pub content_in : (pages : Pages) (s : Setting) (signs : List ContentSign) → IsWrittenBeside pages s signs → IsContentIn pages a_paragraph (spelled s signs)
content_in pages s signs h =
    let c : IsCalledIn pages s signs = h.called in
    let w = content_written pages s signs c.of_block h.read h.parts in
    let part = w.part in
    record {
      read = read_so pages s signs h;
      anywhere = part.anywhere;
      items = λ i. refl;
      is = λ i. subst AreTextItems (sym (given_items pages i s signs h))
          (text_items s signs (owns_in pages i signs) (called_in pages i s signs c));
    }

stays_so : (pages : Pages) (i n : ℕ) (s : Setting) (signs : List ContentSign) → IsWrittenBeside pages s signs → AreTextLines n (part_items pages i (spelled s signs))
stays_so pages i n s signs h =
    let owns : List (List Item) = owns_in pages i signs in
    subst (AreTextLines n) (sym (given_items pages i s signs h))
    (called_lines n s signs owns (called_in pages i s signs h.called))

-- ---- it closes no tag that the other one didn't close

abbrev pub OpenAt : List ℕ → List ℕ → Type 0
OpenAt name bs = (us : List ℕ) × Unclosed name (bs ++ us)

three : (g w r rest : List ℕ) → (g ++ (w ++ r)) ++ rest ≡ g ++ (w ++ (r ++ rest))
three g w r rest = append_assoc g (w ++ r) rest ∙ ap (λ (bs : List ℕ). g ++ bs) (append_assoc w r rest)

pub open_nodes : (s : Setting) (before signs : List ContentSign) (name us : List ℕ) → Unclosed name (spelled_from s before signs ++ us)
    → Each (OpenAt name) (node_sources signs)
open_nodes s before [] name us h = tt
open_nodes s before (letter c ∷ after) name us h =
    let g : List ℕ = nowiki_if (is_guarded s before (letter c ∷ after)) in
    let w : List ℕ = written_by (is_escaped s.within s.place before c after) c in
    let more : List ℕ = spelled_from s (letter c ∷ before) after in
    open_nodes s (letter c ∷ before) after name us
    (unclosed_behind name w (more ++ us) (unclosed_behind name g (w ++ (more ++ us)) (subst (Unclosed name) (three g w more us) h)))
open_nodes s before (thing t ∷ after) name us h =
    let g : List ℕ = nowiki_if (is_guarded s before (thing t ∷ after)) in
    let more : List ℕ = spelled_from s (thing t ∷ before) after in
    let own : Unclosed name (t.source ++ (more ++ us)) = unclosed_behind name g (t.source ++ (more ++ us)) (subst (Unclosed name) (three g t.source more us) h) in
    ((more ++ us, own), open_nodes s (thing t ∷ before) after name us (unclosed_behind name t.source (more ++ us) own))

pub open_things : (name : List ℕ) (signs : List ContentSign) → Each (OpenAt name) (node_sources signs) → Each (OpenFor name) (things signs)
open_things name [] h = tt
open_things name (letter c ∷ after) h = open_things name after h
open_things name (thing t ∷ after) h = (h.0, open_things name after h.1)

pub each_stays : (P : List ℕ → Type 0) (pages : Pages) (bs ds : List (List ℕ)) → StayButForOthers pages bs ds → Each P bs → Each P ds
each_stays P pages [] [] e h = tt
each_stays P pages [] (d ∷ ds) e h = absurd e
each_stays P pages (b ∷ bs) [] e h = tt
each_stays P pages (b ∷ bs) (d ∷ ds) (inl e) h = (subst P e.0 h.0, each_stays P pages bs ds e.1 h.1)
each_stays P pages (b ∷ bs) (d ∷ ds) (inr e) h = each_stays P pages bs (d ∷ ds) e.1 h.1

closes_so : (s : Setting) (bs : List (List ℕ)) (signs : List ContentSign) (pages : Pages) → StayButForOthers pages bs (node_sources signs) → IsWrittenBeside pages s signs
    → (name vs : List ℕ) → Each (OpenAt name) bs → Unclosed name vs → Unclosed name (spelled s signs ++ vs)
closes_so s bs signs pages e h name vs o v =
    content_closes s [] signs name vs (open_things name signs (each_stays (OpenAt name) pages bs (node_sources signs) e o)) h.sealed v

-- ---- and has its calls, and its work

abbrev pub calls_of : Pages → List (List ℕ) → List OuterCall
calls_of pages [] = []
calls_of pages (bs ∷ more) = (expanded_page pages bs).outer ++ calls_of pages more

abbrev pub work_of : Pages → List (List ℕ) → List Entry
work_of pages [] = []
work_of pages (bs ∷ more) = work_in pages bs ++ work_of pages more

pub calls_by : (pages : Pages) (signs : List ContentSign) → written_calls pages signs ≡ calls_of pages (node_sources signs)
calls_by pages [] = refl
calls_by pages (letter c ∷ after) = calls_by pages after
calls_by pages (thing t ∷ after) = ap (λ (cs : List OuterCall). (expanded_page pages t.source).outer ++ cs) (calls_by pages after)

pub work_by : (pages : Pages) (signs : List ContentSign) → written_work pages signs ≡ work_of pages (node_sources signs)
work_by pages [] = refl
work_by pages (letter c ∷ after) = work_by pages after
work_by pages (thing t ∷ after) = ap (λ (es : List Entry). work_in pages t.source ++ es) (work_by pages after)

some_behind : (es xs ys : List Entry) → AreSomeOf xs ys → AreSomeOf xs (es ++ ys)
some_behind [] xs ys h = h
some_behind (e ∷ es) [] ys h = tt
some_behind (e ∷ es) (x ∷ xs) ys h = inr (some_behind es (x ∷ xs) ys h)

some_both : (es xs ys : List Entry) → AreSomeOf xs ys → AreSomeOf (es ++ xs) (es ++ ys)
some_both [] xs ys h = h
some_both (e ∷ es) xs ys h = inl (refl, some_both es xs ys h)

pub calls_stay : (pages : Pages) (bs ds : List (List ℕ)) → StayButForOthers pages bs ds → calls_of pages bs ≡ calls_of pages ds
calls_stay pages [] [] h = refl
calls_stay pages [] (d ∷ ds) h = absurd h
calls_stay pages (b ∷ bs) [] h = ap (λ (cs : List OuterCall). cs ++ calls_of pages bs) h.0 ∙ calls_stay pages bs [] h.1
calls_stay pages (b ∷ bs) (d ∷ ds) (inl h) =
    ap₂ (λ (cs es : List OuterCall). cs ++ es) (ap (λ (q : List ℕ). (expanded_page pages q).outer) h.0) (calls_stay pages bs ds h.1)
calls_stay pages (b ∷ bs) (d ∷ ds) (inr h) = ap (λ (cs : List OuterCall). cs ++ calls_of pages bs) h.0 ∙ calls_stay pages bs (d ∷ ds) h.1

pub work_stays : (pages : Pages) (bs ds : List (List ℕ)) → StayButForOthers pages bs ds → AreSomeOf (work_of pages ds) (work_of pages bs)
work_stays pages [] [] h = tt
work_stays pages [] (d ∷ ds) h = absurd h
work_stays pages (b ∷ bs) [] h = tt
work_stays pages (b ∷ bs) (d ∷ ds) (inl h) =
    subst (λ (q : List ℕ). AreSomeOf (work_in pages q ++ work_of pages ds) (work_in pages b ++ work_of pages bs)) h.0
    (some_both (work_in pages b) (work_of pages ds) (work_of pages bs) (work_stays pages bs ds h.1))
work_stays pages (b ∷ bs) (d ∷ ds) (inr h) =
    some_behind (work_in pages b) (work_of pages (d ∷ ds)) (work_of pages bs) (work_stays pages bs (d ∷ ds) h.1)

pub turned : (cs ds : List OuterCall) → AreMoved cs ds → AreMoved ds cs
turned [] [] m = tt
turned [] (d ∷ ds) m = absurd m
turned (c ∷ cs) [] m = absurd m
turned (c ∷ cs) (d ∷ ds) m =
    let o : IsMoved c d = m.0 in
    (record { call = o.call; first = o.second; second = o.first; was = o.now; now = o.was }, turned cs ds m.1)

-- in the place of any content that has the calls and the work of nodes that it holds
pub written_over : (pages : Pages) (q : List ℕ) (bs : List (List ℕ)) (s : Setting) (signs : List ContentSign) → AreMoved (calls_of pages bs) (expanded_page pages q).outer
    → work_in pages q ≡ work_of pages bs → ((name us : List ℕ) → Unclosed name (q ++ us) → Each (OpenAt name) bs) → IsWrittenBeside pages s signs
    → StayButForOthers pages bs (node_sources signs) → IsNewContentIn pages a_paragraph q (spelled s signs)
written_over pages q bs s signs old was_work opens h e =
    let r : List ℕ = spelled s signs in
    let now : IsCalledIn pages s signs = h.called in
    let b = content_written pages s signs now.of_block h.read h.parts in
    let part = b.part in
    let calls : calls_of pages bs ≡ written_calls pages signs = calls_stay pages bs (node_sources signs) e ∙ sym (calls_by pages signs) in
    let now_work : work_in pages r ≡ work_of pages (node_sources signs) = b.work_is ∙ work_by pages signs in
    let new : AreMoved (calls_of pages bs) (expanded_page pages r).outer =
    subst (λ (cs : List OuterCall). AreMoved cs (expanded_page pages r).outer) (sym calls) b.calls_are in
    record {
      part = record {
        read = record {
          read = read_so pages s signs h;
          firm = called_firm a_paragraph s signs now.of_block h.read;
          closes = λ name us vs o v. closes_so s bs signs pages e h name vs (opens name us o) v;
        };
        anywhere = part.anywhere;
        left = none_less (left_of r) (left_of q) part.left;
        undeep = λ i. part.undeep;
        work = subst (λ (es : List Entry). AreSomeOf es (work_in pages q)) (sym now_work)
            (subst (λ (es : List Entry). AreSomeOf (work_of pages (node_sources signs)) es) (sym was_work) (work_stays pages bs (node_sources signs) e));
      };
      content = content_in pages s signs h;
      calls = calls_after (expanded_page pages q).outer (calls_of pages bs) (expanded_page pages r).outer (turned (calls_of pages bs) (expanded_page pages q).outer old) new;
      stays = λ i n. stays_so pages i n s signs h;
    }

pub written_anew : (pages : Pages) (s₀ s : Setting) (olds signs : List ContentSign) → IsWrittenBeside pages s₀ olds → IsWrittenBeside pages s signs
    → StayButForOthers pages (node_sources olds) (node_sources signs) → IsNewContentIn pages a_paragraph (spelled s₀ olds) (spelled s signs)
written_anew pages s₀ s olds signs k h e =
    let was : IsCalledIn pages s₀ olds = k.called in
    let a = content_written pages s₀ olds was.of_block k.read k.parts in
    written_over pages (spelled s₀ olds) (node_sources olds) s signs
    (subst (λ (cs : List OuterCall). AreMoved cs (expanded_page pages (spelled s₀ olds)).outer) (calls_by pages olds) a.calls_are) (a.work_is ∙ work_by pages olds)
    (λ name us o. open_nodes s₀ [] olds name us o) h e
