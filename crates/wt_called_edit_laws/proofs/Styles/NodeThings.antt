-- A call, or another node of a block, by its source: it is such as texts are typed beside.
use Rattle.std.proofs.Common.{◌≡◌, ◌⊎◌, inl, inr, ℕ, Bool, true, false, not, None, List, [], ◌∷◌, ap, refl, subst, sym, ◌∙◌}
use Rattle.std.specs.Prelude.{◌||◌, ◌==◌, map}
use Rattle.wt_span.specs.Bytes.{is_break}
use Rattle.wt_span.specs.Characters as byte
use Rattle.wt_span.specs.Items.{Item, sources}
use Rattle.wt_span.specs.Origins.{OuterCall}
use Rattle.wt_tiles.specs.Glyphs.{glyph_of}
use Rattle.wt_guards.specs.Content.{Thing, ends_line, is_group, thing}
use Rattle.wt_guards.specs.declared.role.Role.{Role}
use Rattle.wt_guards.specs.declared.role.Role.TheVariants.{Bare, External, Function, Group, Link, Mark, Node, Switch, Toggle}
use Rattle.wt_guards.specs.declared.role.Transclusion.{Transclusion}
use Rattle.wt_isolation.specs.OpenTags.{ends_open}
use Rattle.wt_expand.specs.PageCalls.{expanded_page}
use Rattle.wt_expand.specs.PageItems.{page_items}
use Rattle.wt_expand.specs.Work.{Pages}
use Rattle.wt_expand.proofs.PageLaws.{page_sources}
use Rattle.wt_part_laws.specs.MovedCalls.{AreMoved}
use Rattle.wt_text_edit_laws.specs.ReadContents.{BeginsUnjoined}
use Rattle.wt_text_edit_laws.specs.TextBetween.{EndsBy}
use Rattle.wt_beside_laws.proofs.FlatAgain.{no_break}
use Rattle.wt_beside_laws.proofs.Made.NodesSealed.{nodes_sealed}
use Rattle.wt_beside_laws.proofs.Marks.Shown.{read_node}
use Rattle.wt_beside_laws.proofs.Own.Held.{node_held}
use Rattle.wt_beside_laws.proofs.Own.References.{node_references}
use Rattle.wt_beside_laws.specs.Called.{IsOfFolder, StaysAsItIs}
use Rattle.wt_beside_laws.specs.Commented.{IsHeld, IsReadInLine, LexemesEnd}
use Rattle.wt_beside_laws.specs.FlatBlocks.{IsSealed}
use Rattle.wt_beside_laws.specs.NodeItems.{node_items}
use Rattle.wt_beside_laws.specs.Nodes.{IsNode}
use Rattle.wt_beside_laws.specs.PageSigns.{ends_break}
use Rattle.wt_beside_laws.specs.References.{ReferencesEnd}
use Rattle.wt_beside_laws.specs.StyledNodes.{EndsUnquoted}
use Rattle.wt_called_edit_laws.proofs.Styles.CallSources.{call_outward, call_sealed, call_source}
use Rattle.wt_called_edit_laws.proofs.Written.Joined.{calm_written}
use Rattle.wt_called_edit_laws.proofs.Written.Levels.{held_same}
use Rattle.wt_called_edit_laws.specs.BlockNodes.{AreOnes, IsOneBy, IsOneCall, IsOneNode, IsUnbraced, UrlEnds}
use Rattle.wt_called_edit_laws.specs.PageThings.{AllMeetLater, ArePageThings, IsPageThing}
use Rattle.wt_called_edit_laws.specs.StyledCallEdits.{AreOwnThings, GivesUnquoted, IsOwnThing}
use Rattle.wt_called_edit_laws.specs.Written.{BeginsOutward, EndsOutward, IsHeldInLine, IsOwnPart, is_outward}

-- ---- without braces

no_calls : (os : List OuterCall) → AreMoved [] os → os ≡ []
no_calls [] m = refl
no_calls (o ∷ os) m = absurd m

pub calls_none : (pages : Pages) (b : List ℕ) → IsUnbraced b → (expanded_page pages b).outer ≡ []
calls_none pages b u = let w = calm_written pages b u in no_calls (expanded_page pages b).outer w.calls_are

pub part_alone : (pages : Pages) (b : List ℕ) → IsUnbraced b → IsOwnPart pages b
part_alone pages b u = let w = calm_written pages b u in w.part

-- ---- a node of the page

broken_last : (b : ℕ) (bs : List ℕ) → EndsBy is_break (b ∷ bs) → EndsBy is_outward (b ∷ bs) → ⊥
broken_last b [] e f =
    let brace : Bool = b == byte.opening_brace || b == byte.opening_bracket in
    let g : not (b == byte.line_break || brace) ≡ false = ap (λ (v : Bool). not (v || brace)) e in
    let no : true ≡ false = sym f ∙ g in cc
broken_last b (c ∷ cs) e f = broken_last c cs e f

only : (source : List ℕ) → ReferencesEnd source ⊎ BeginsUnjoined (97 ∷ []) → ReferencesEnd source
only source (inl r) = r
only source (inr u) = let no : true ≡ false = u in absurd (cc)

-- no reference begins in it that goes on behind it
references_of : (r : Role) (xs : List Item) → LexemesEnd xs → IsNode r (map glyph_of xs) → UrlEnds r (sources xs) → ReferencesEnd (sources xs)
references_of Link xs l n u = only (sources xs) (node_references Link xs (97 ∷ []) [] l n tt tt)
references_of External xs l n u = only (sources xs) (node_references External xs (97 ∷ []) [] l n tt tt)
references_of (Bare ends) xs l n u = u
references_of Switch xs l n u = only (sources xs) (node_references Switch xs (97 ∷ []) [] l n tt tt)
references_of Toggle xs l n u = only (sources xs) (node_references Toggle xs (97 ∷ []) [] l n tt tt)
references_of (Mark ends began) xs l n u = only (sources xs) (node_references (Mark ends began) xs (97 ∷ []) [] l n tt tt)
references_of (Group g) xs l n u = absurd n
references_of Function xs l n u = only (sources xs) (node_references Function xs (97 ∷ []) [] l n tt tt)
references_of Node xs l n u = only (sources xs) (node_references Node xs (97 ∷ []) [] l n tt tt)

references_in : (r : Role) (source : List ℕ) → IsReadInLine source → IsNode r (map glyph_of (node_items source)) → UrlEnds r source → ReferencesEnd source
references_in r source h n u =
    let own : IsNode r (map glyph_of (page_items source)) = subst (λ (xs : List Item). IsNode r (map glyph_of xs)) (read_node source h) n in
    subst ReferencesEnd (page_sources source)
    (references_of r (page_items source) h.ends own (subst (UrlEnds r) (sym (page_sources source)) u))

-- it is no line of comments
in_line : (r : Role) (source : List ℕ) → IsHeld source → EndsOutward source → IsNode r (map glyph_of (node_items source)) → UrlEnds r source → IsHeldInLine source
in_line r source (inl k) e n u = inl k
in_line r source (inr (inl c)) e n u = inr (inl c)
in_line r source (inr (inr (inl l))) e n u = absurd (broken_last l.first l.others l.ends (subst EndsOutward l.is e))
in_line r source (inr (inr (inr h))) e n u = inr (inr (h, references_in r source h n u))

-- the same with the role that its source tells
sealed_as : (r : Role) (source : List ℕ) → IsNode r (map glyph_of (node_items source)) → IsHeld source → IsSealed source
sealed_as Link source n h = (nodes_sealed (thing (record { role = Link; source = source; place = None }) ∷ []) (n, tt) ((h, tt), tt)).0
sealed_as External source n h = (nodes_sealed (thing (record { role = External; source = source; place = None }) ∷ []) (n, tt) ((h, tt), tt)).0
sealed_as (Bare ends) source n h = (nodes_sealed (thing (record { role = Bare ends; source = source; place = None }) ∷ []) (n, tt) ((h, tt), tt)).0
sealed_as Switch source n h = (nodes_sealed (thing (record { role = Switch; source = source; place = None }) ∷ []) (n, tt) ((h, tt), tt)).0
sealed_as Toggle source n h = (nodes_sealed (thing (record { role = Toggle; source = source; place = None }) ∷ []) (n, tt) ((h, tt), tt)).0
sealed_as (Mark ends began) source n h =
    (nodes_sealed (thing (record { role = Mark (ends_break source) began; source = source; place = None }) ∷ []) (n, tt) ((h, refl), tt)).0
sealed_as (Group g) source n h = absurd n
sealed_as Function source n h = (nodes_sealed (thing (record { role = Function; source = source; place = None }) ∷ []) (n, tt) ((h, tt), tt)).0
sealed_as Node source n h = (nodes_sealed (thing (record { role = Node; source = source; place = None }) ∷ []) (n, tt) ((h, tt), tt)).0

folder_as : (r : Role) (pages : Pages) (t : Thing) → is_group r ≡ false → StaysAsItIs pages t → IsOfFolder r pages t
folder_as Link pages t e h = inl h
folder_as External pages t e h = inl h
folder_as (Bare ends) pages t e h = h
folder_as Switch pages t e h = h
folder_as Toggle pages t e h = h
folder_as (Mark ends began) pages t e h = h
folder_as (Group g) pages t e h = let no : true ≡ false = e in absurd (cc)
folder_as Function pages t e h = h
folder_as Node pages t e h = inl h

gives_as : (r : Role) (pages : Pages) (source : List ℕ) → is_group r ≡ false → GivesUnquoted pages r source
gives_as Link pages source e = tt
gives_as External pages source e = tt
gives_as (Bare ends) pages source e = tt
gives_as Switch pages source e = tt
gives_as Toggle pages source e = tt
gives_as (Mark ends began) pages source e = tt
gives_as (Group g) pages source e = let no : true ≡ false = e in absurd (cc)
gives_as Function pages source e = tt
gives_as Node pages source e = tt

-- texts may be typed beside it, and in bold and italic round it
pub record IsBesideThing (pages : Pages) (t : Thing) : Type 0 where
  pub of_page : IsPageThing pages t
  pub own : IsOwnThing pages t

node_thing : (pages : Pages) (t : Thing) → is_group t.role ≡ false → IsOneNode t → ends_open t.source ≡ false → IsBesideThing pages t
node_thing pages t e h shut =
    let held : IsHeld t.source = node_held t.role t.source h.node shut h.ended (no_break (node_items t.source) h.unbroken) in
    let line : IsHeldInLine t.source = in_line t.role t.source held h.ends h.node h.references in
    let w = calm_written pages t.source h.unbraced in
    let stays : StaysAsItIs pages t = record {
      items = λ i. w.items_are i ∙ sym (held_same t.source line);
      flat = h.flat;
      node = h.node;
      closed = h.closed;
      inside = h.inside;
      unbroken = h.unbroken;
      own = h.own;
    } in
    record {
      of_page = record {
        folder = folder_as t.role pages t e stays;
        read = record { source = inl (line, h.node, h.inside); begins = h.begins; ends = h.ends };
        part = w.part;
        sealed = sealed_as t.role t.source h.node held;
        shut = (shut, λ z. h.shut);
        utf8 = h.utf8;
      };
      own = record { some = λ z. h.own; unquoted = h.unquoted; gives = gives_as t.role pages t.source e };
    }

-- ---- a call

call_thing : (pages : Pages) (t : Thing) (g : Transclusion) → t.role ≡ Group g → IsOneCall pages g t.source → ends_open t.source ≡ false → IsBesideThing pages t
call_thing pages t g e h shut =
    let line : ends_line t.role ≡ false = ap ends_line e in
    let grouped : is_group t.role ≡ true = ap is_group e in
    record {
      of_page = record {
        folder = subst (λ (r : Role). IsOfFolder r pages t) (sym e) h.gives;
        read = record {
          source = inr (call_source t.source h.ended shut, line);
          begins = begins_call t.source h.ended.others h.ended.is;
          ends = call_outward t.source h.ended.last;
        };
        part = h.part;
        sealed = call_sealed t.source h.ended.last;
        shut = (shut, λ z. let no : true ≡ false = sym grouped ∙ z in absurd (cc));
        utf8 = h.utf8;
      };
      own = record {
        some = λ z. let no : true ≡ false = sym grouped ∙ z in absurd (cc);
        unquoted = subst (λ (r : Role). EndsUnquoted r (map glyph_of (node_items t.source))) (sym e) tt;
        gives = subst (λ (r : Role). GivesUnquoted pages r t.source) (sym e) h.unquoted;
      };
    }
  where
    begins_call : (source others : List ℕ) → source ≡ byte.opening_brace ∷ others → BeginsOutward source
    begins_call source others i = subst BeginsOutward (sym i) refl

-- ---- either

thing_by : (r : Role) (pages : Pages) (t : Thing) → t.role ≡ r → IsOneBy r pages t → ends_open t.source ≡ false → IsBesideThing pages t
thing_by Link pages t e h shut = node_thing pages t (ap is_group e) h shut
thing_by External pages t e h shut = node_thing pages t (ap is_group e) h shut
thing_by (Bare ends) pages t e h shut = node_thing pages t (ap is_group e) h shut
thing_by Switch pages t e h shut = node_thing pages t (ap is_group e) h shut
thing_by Toggle pages t e h shut = node_thing pages t (ap is_group e) h shut
thing_by (Mark ends began) pages t e h shut = node_thing pages t (ap is_group e) h shut
thing_by (Group g) pages t e h shut = call_thing pages t g e h shut
thing_by Function pages t e h shut = node_thing pages t (ap is_group e) h shut
thing_by Node pages t e h shut = node_thing pages t (ap is_group e) h shut

-- none ends in an open tag
abbrev pub AreShutThings : List Thing → Type 0
AreShutThings [] = Unit {0}
AreShutThings (t ∷ ts) = (ends_open t.source ≡ false) × AreShutThings ts

pub page_things_by : (pages : Pages) (ts : List Thing) → AreOnes pages ts → AreShutThings ts → AllMeetLater pages ts → ArePageThings pages ts
page_things_by pages [] h s m = tt
page_things_by pages (t ∷ ts) h s m =
    let one = thing_by t.role pages t refl h.0 s.0 in (one.of_page, m.0, page_things_by pages ts h.1 s.1 m.1)

pub own_things_by : (pages : Pages) (ts : List Thing) → AreOnes pages ts → AreShutThings ts → AreOwnThings pages ts
own_things_by pages [] h s = tt
own_things_by pages (t ∷ ts) h s = let one = thing_by t.role pages t refl h.0 s.0 in (one.own, own_things_by pages ts h.1 s.1)
