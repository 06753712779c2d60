-- What is written of a content, sign by sign, is flat tiles again, and their sources hold what its sources hold.
use Rattle.std.proofs.Common.{arith, ◌≡◌, ℕ, suc, ◌+◌, ◌==◌, Bool, true, false, Option, Some, None, List, [], ◌∷◌, ◌++◌, length, map, take, drop, refl, sym, ap, ◌∙◌, subst, inl, append-nil}
use Rattle.std.specs.Prelude.{codes, encode_utf8, if◌then◌else◌}
use Rattle.std.specs.Fmt.{digits}
use Rattle.std.specs.Str.{chars, IsUtf8}
use Rattle.std.specs.Char.{IsScalar}
use Rattle.std.proofs.lemmas.Bool.Decides.{nat_tests}
use Rattle.std.proofs.lemmas.Str.{IsUtf8-nil, IsUtf8-append, IsUtf8-encode}
use Rattle.wt_span.specs.declared.form.Mode.TheVariants.{Page}
use Rattle.wt_span.specs.declared.form.LexKind.TheVariants.{Raw, Entity}
use Rattle.wt_span.specs.declared.form.ItemForm.{ItemForm}
use Rattle.wt_span.specs.declared.form.ItemForm.TheVariants as form
use Rattle.wt_span.specs.Comments.{comment_len}
use Rattle.wt_span.specs.Items.{Item, char, whole, sources}
use Rattle.wt_span.specs.Lexemes.{form_at as lexeme_at}
use Rattle.wt_guards.specs.Content.{ContentSign, Thing, letter, thing}
use Rattle.wt_guards.specs.Guards.{nowiki}
use Rattle.wt_guards.specs.Letters.{reference}
use Rattle.wt_guards.proofs.Escapes.{is_escapable, each_escapable}
use Rattle.wt_isolation.specs.OpenTags.{ends_open}
use Rattle.wt_expand.specs.PageItems.{page_items}
use Rattle.wt_beside_laws.proofs.NodeItems.{node_as, node_sources}
use Rattle.wt_lines.specs.Lines.{AreLines, IsUnbroken}
use Rattle.wt_typed_blocks.proofs.Forms.{comment_other, nowiki_form, reference_form}
use Rattle.wt_tiles.specs.declared.glyph.Glyph.{Glyph}
use Rattle.wt_tiles.specs.declared.glyph.Glyph.TheVariants as glyph
use Rattle.wt_tiles.specs.declared.shape.Shape.{Shape}
use Rattle.wt_tiles.specs.declared.shape.TileKind.{TileKind}
use Rattle.wt_tiles.specs.declared.shape.TileKind.TheVariants as kind
use Rattle.wt_tiles.specs.Contexts.{in_line}
use Rattle.wt_tiles.specs.Links.{leaf}
use Rattle.wt_tiles.specs.Tiles.{size, Cut, chars as run, closed, parts as tile_parts, tiles}
use Rattle.wt_text_edit_laws.specs.LonePages.{page_chars}
use Rattle.wt_text_edit_laws.specs.TextBetween.{EndsBy}
use Rattle.wt_text_edit_laws.proofs.Texts.TypedItems.{references}
use Rattle.wt_beside_laws.specs.Content.{AreKept, guard_items, letter_items}
use Rattle.wt_beside_laws.specs.Cuts.{add_chars, add_tile, own_glyphs, own_form, add_node, guard_cut, letter_cut}
use Rattle.wt_beside_laws.specs.Flat.{IsFlat}
use Rattle.wt_beside_laws.specs.Kept.{lexeme, is_lexeme_end, IsKept}
use Rattle.wt_beside_laws.specs.Nodes.{IsNode}
use Rattle.wt_beside_laws.specs.PageBlocks.{AreShut}
use Rattle.wt_beside_laws.specs.PageSigns.{ends_break, atom_role, tile_signs, signs_of_tiles, line_signs, signs_of_lines, IsFlatForm, IsFlatTile, AreFlatTiles, HasNoBreak}
use Rattle.wt_beside_laws.proofs.Contents.{nowiki_reads, reference_reads}
use Rattle.wt_beside_laws.proofs.Firm.{alone_as}
use Rattle.wt_beside_laws.proofs.FormKinds.{IsNodeKind, form_is_node}
use Rattle.wt_beside_laws.proofs.LineParts.{has_form, glyphs_long}
use Rattle.wt_beside_laws.proofs.Marks.InLine.{reference_ends}
use Rattle.wt_beside_laws.proofs.PageSigns.{IsFlatKind}
use Rattle.wt_beside_laws.specs.Commented.{IsHeld, EndsAsSaid}
use Rattle.wt_beside_laws.specs.NodeItems.{node_items}

-- ---- a form

same_shape : (v w : Shape) → Some v ≡ Some w → v ≡ w
same_shape v w e = cc

stays_kind : (k : TileKind) → IsNodeKind k → IsFlatKind k
stays_kind kind.Link h = tt
stays_kind kind.Category h = tt
stays_kind kind.Media h = tt
stays_kind kind.ExtLink h = tt
stays_kind kind.BareUrl h = tt
stays_kind kind.Br h = tt
stays_kind kind.Pair h = tt
stays_kind kind.TagIsland h = tt
stays_kind kind.Switch h = tt
stays_kind kind.Atom h = absurd h
stays_kind kind.Mark h = absurd h
stays_kind kind.Chars h = absurd h

mark_flat : (w : Shape) → Some (leaf kind.Mark 1) ≡ Some w → IsFlatKind w.kind
mark_flat w e = subst (λ (v : Shape). IsFlatKind v.kind) (same_shape (leaf kind.Mark 1) w e) tt

atom_flat : (w : Shape) → Some (leaf kind.Atom 1) ≡ Some w → IsFlatKind w.kind
atom_flat w e = subst (λ (v : Shape). IsFlatKind v.kind) (same_shape (leaf kind.Atom 1) w e) tt

form_flat : (own : List Glyph) (w : Shape) → own_form in_line own ≡ Some w → IsFlatKind w.kind
form_flat [] w e = cc
form_flat (glyph.Byte b ∷ gs) w e = stays_kind w.kind (form_is_node in_line false (glyph.Byte b ∷ gs) w e)
form_flat (glyph.Entity c ∷ gs) w e = atom_flat w e
form_flat (glyph.Atom ∷ gs) w e = atom_flat w e
form_flat (glyph.Mark ∷ gs) w e = mark_flat w e

flat_tile : (k : TileKind) (own : List Item) → IsFlatKind k → IsFlatForm own → IsFlatTile k own
flat_tile kind.Link own h f = f
flat_tile kind.Category own h f = f
flat_tile kind.Media own h f = f
flat_tile kind.ExtLink own h f = f
flat_tile kind.BareUrl own h f = f
flat_tile kind.Br own h f = f
flat_tile kind.Pair own h f = f
flat_tile kind.TagIsland own h f = f
flat_tile kind.Switch own h f = f
flat_tile kind.Atom own h f = f
flat_tile kind.Mark own h f = f
flat_tile kind.Chars own h f = absurd h

-- a node that stays, as a tile
node_tile : (t : Thing) (w : Shape) → IsFlat t.role → IsNode t.role (own_glyphs t) → own_form in_line (own_glyphs t) ≡ Some w → IsFlatTile w.kind (node_items t.source)
node_tile t w f n e =
    flat_tile w.kind (node_items t.source) (form_flat (own_glyphs t) w e)
    (record { alone = ap node_items (node_sources t.source) })

-- ---- sources

-- each node's source is so
abbrev pub EachSource : (List ℕ → Type 0) → List ContentSign → Type 0
EachSource Q [] = Unit {0}
EachSource Q (letter c ∷ after) = EachSource Q after
EachSource Q (thing t ∷ after) = Q t.source × EachSource Q after

letters_so : (Q : List ℕ → Type 0) (cs : List ℕ) → EachSource Q (map letter cs)
letters_so Q [] = tt
letters_so Q (c ∷ cs) = letters_so Q cs

pub tile_so : (Q : List ℕ → Type 0) (k : TileKind) (began : Bool) (at : ℕ) (own : List Item) → Q (sources own) → EachSource Q (tile_signs k began at own)
tile_so Q kind.Link began at own h = (h, tt)
tile_so Q kind.Category began at own h = (h, tt)
tile_so Q kind.Media began at own h = (h, tt)
tile_so Q kind.ExtLink began at own h = (h, tt)
tile_so Q kind.BareUrl began at own h = (h, tt)
tile_so Q kind.Br began at own h = (h, tt)
tile_so Q kind.Pair began at own h = (h, tt)
tile_so Q kind.TagIsland began at own h = (h, tt)
tile_so Q kind.Switch began at own h = (h, tt)
tile_so Q kind.Atom began at own h = (h, tt)
tile_so Q kind.Mark began at own h = (h, tt)
tile_so Q kind.Chars began at own h = letters_so Q (chars (sources own))

pub so_both : (Q : List ℕ → Type 0) (xs ys : List ContentSign) → EachSource Q xs → EachSource Q ys → EachSource Q (xs ++ ys)
so_both Q [] ys h k = k
so_both Q (letter c ∷ xs) ys h k = so_both Q xs ys h k
so_both Q (thing t ∷ xs) ys h k = (h.0, so_both Q xs ys h.1 k)

-- the nowikis that are put, and references, are so
pub record HoldsOfPut (Q : List ℕ → Type 0) : Type 0 where
  pub of_nowiki : Q nowiki
  pub of_reference : (c : ℕ) → is_escapable c ≡ true → Q (reference c)

pub nowiki_kept : IsKept nowiki
unfolding nowiki comment_len
nowiki_kept = record {
  parts = lexeme Raw 60 (codes "nowiki/>") ∷ [];
  are = (record { form = λ rest. nowiki_form Page rest; uncommented = λ rest. refl; begins = refl; ends = refl }, tt);
  is = refl;
}

reference_kept : (c : ℕ) → is_escapable c ≡ true → IsKept (reference c)
reference_kept c e =
    let r = references c e in
    record {
      parts = lexeme (Entity c) 38 r.others ∷ [];
      are = (
        record {
          form = λ rest.
              ap (λ (bs : List ℕ). lexeme_at Page false (bs ++ rest)) (sym r.is) ∙ reference_form Page rest c e
              ∙ ap (λ (bs : List ℕ). Some (Entity c, length bs)) r.is;
          uncommented = λ rest. comment_other 38 (r.others ++ rest) (omega arith);
          begins = refl;
          ends = subst (EndsBy is_lexeme_end) r.is (reference_ends c e);
        },
        tt,
      );
      is = append-nil (38 ∷ r.others) ∙ sym r.is;
    }

-- a lexeme by itself has no line break
held_lexeme : (f : ItemForm) (q : List ℕ) → IsKept q → page_items q ≡ whole f None q ∷ [] → IsHeld q
held_lexeme f q k e = inl (k, subst HasNoBreak (sym e) (tt, tt))

nowiki_held : IsHeld nowiki
nowiki_held = held_lexeme form.Nowiki nowiki nowiki_kept (alone_as nowiki (whole form.Nowiki None nowiki ∷ []) nowiki_reads)

reference_held : (c : ℕ) → is_escapable c ≡ true → IsHeld (reference c)
reference_held c e =
    held_lexeme (form.Entity c) (reference c) (reference_kept c e) (alone_as (reference c) (whole (form.Entity c) None (reference c) ∷ []) (reference_reads c e))

pub put_kept : HoldsOfPut IsHeld
put_kept = record { of_nowiki = nowiki_held; of_reference = reference_held }

abbrev pub IsShut : List ℕ → Type 0
IsShut bs = ends_open bs ≡ false

nowiki_shut : IsShut nowiki
unfolding nowiki
nowiki_shut = refl

reference_shut : (c : ℕ) → is_escapable c ≡ true → IsShut (reference c)
unfolding reference digits
reference_shut c e = each_escapable (λ k. ends_open (reference k) ≡ false) refl refl refl refl refl refl refl refl refl refl refl refl refl c e

pub put_shut : HoldsOfPut IsShut
put_shut = record { of_nowiki = nowiki_shut; of_reference = reference_shut }

-- a lexeme by itself, as a tile
record IsAtom (Q : List ℕ → Type 0) (x : Item) : Type 0 where
  alone : node_items (sources (x ∷ [])) ≡ x ∷ []
  so : Q (sources (x ∷ []))

whole_atom : (Q : List ℕ → Type 0) (f : ItemForm) (bs : List ℕ) → node_items bs ≡ whole f None bs ∷ [] → Q bs → IsAtom Q (whole f None bs)
whole_atom Q f bs e k = record { alone = ap node_items (append-nil bs) ∙ e; so = subst Q (sym (append-nil bs)) k }

nowiki_atom : (Q : List ℕ → Type 0) → HoldsOfPut Q → IsAtom Q (whole form.Nowiki None nowiki)
nowiki_atom Q p = whole_atom Q form.Nowiki nowiki (node_as nowiki (whole form.Nowiki None nowiki ∷ []) nowiki_reads) p.of_nowiki

reference_atom : (Q : List ℕ → Type 0) (c : ℕ) → HoldsOfPut Q → is_escapable c ≡ true → IsAtom Q (whole (form.Entity c) None (reference c))
reference_atom Q c p e =
    whole_atom Q (form.Entity c) (reference c) (node_as (reference c) (whole (form.Entity c) None (reference c) ∷ []) (reference_reads c e)) (p.of_reference c e)

-- ---- cuts

-- the run that is first is UTF-8, and the tiles behind it are flat
pub record FlatCut (Q : List ℕ → Type 0) (c : Cut) (xs : List Item) : Type 0 where
  pub text : IsUtf8 (sources (take c.0 xs))
  pub tiles : AreFlatTiles (tile_parts c.1 (drop c.0 xs))
  pub kept : (began : Bool) (at : ℕ) → EachSource Q (signs_of_tiles began at (tile_parts c.1 (drop c.0 xs)))

pub record FlatShapes (Q : List ℕ → Type 0) (ps : List (Shape × List Item)) : Type 0 where
  pub tiles : AreFlatTiles ps
  pub kept : (began : Bool) (at : ℕ) → EachSource Q (signs_of_tiles began at ps)

-- a tile before others
tile_before : (Q : List ℕ → Type 0) (w : Shape) (own : List Item) (ps : List (Shape × List Item)) → IsFlatTile w.kind own → ((began : Bool) (at : ℕ) → EachSource Q (tile_signs w.kind began at own))
    → FlatShapes Q ps → FlatShapes Q ((w, own) ∷ ps)
tile_before Q w own ps t k f = record {
  tiles = (t, f.tiles);
  kept = λ began at. so_both Q (tile_signs w.kind began at own) (signs_of_tiles (ends_break (sources own)) (at + length (sources own)) ps) (k began at)
      (f.kept (ends_break (sources own)) (at + length (sources own)));
}

closed_by : (Q : List ℕ → Type 0) (t : Bool) (n : ℕ) (ws : List Shape) (xs : List Item) → (n == 0) ≡ t → FlatCut Q (n, ws) xs → FlatShapes Q (tile_parts (if t then ws else run n ∷ ws) xs)
closed_by Q true n ws xs e f =
    let is : n ≡ 0 = grind (arith, nat_tests, e) in
    let g : FlatCut Q (0, ws) xs = subst (λ (m : ℕ). FlatCut Q (m, ws) xs) is f in
    record { tiles = g.tiles; kept = g.kept }
closed_by Q false n ws xs e f =
    let all : n ≡ size (run n) = omega arith in
    subst (λ (m : ℕ). FlatShapes Q ((run n, take m xs) ∷ tile_parts ws (drop m xs))) all
    (tile_before Q (run n) (take n xs) (tile_parts ws (drop n xs)) f.text (λ began at. letters_so Q (chars (sources (take n xs)))) (record { tiles = f.tiles; kept = f.kept }))

pub closed_flat : (Q : List ℕ → Type 0) (c : Cut) (xs : List Item) → FlatCut Q c xs → FlatShapes Q (tile_parts (closed c.0 c.1) xs)
unfolding closed
closed_flat Q c xs f = closed_by Q (c.0 == 0) c.0 c.1 xs refl f

front_taken : (own xs : List Item) → take (length own) (own ++ xs) ≡ own
front_taken [] xs = refl
front_taken (x ∷ own) xs = ap (λ ys. x ∷ ys) (front_taken own xs)

front_dropped : (own xs : List Item) → drop (length own) (own ++ xs) ≡ xs
front_dropped [] xs = refl
front_dropped (x ∷ own) xs = front_dropped own xs

-- a form before what follows it
tile_flat : (Q : List ℕ → Type 0) (w : Shape) (own : List Item) (c : Cut) (xs : List Item) → size w ≡ length own → IsFlatTile w.kind own → Q (sources own) → FlatCut Q c xs
    → FlatCut Q (add_tile w c) (own ++ xs)
tile_flat Q w own c xs l t k f =
    let ws : List Shape = closed c.0 c.1 in
    let ys : List Item = own ++ xs in
    let is : (w, own) ∷ tile_parts ws xs ≡ (w, take (size w) ys) ∷ tile_parts ws (drop (size w) ys) =
    ap (λ (zs : List Item). (w, own) ∷ tile_parts ws zs) (sym (front_dropped own xs))
    ∙ ap (λ (zs : List Item). (w, zs) ∷ tile_parts ws (drop (length own) ys)) (sym (front_taken own xs))
    ∙ ap (λ (n : ℕ). (w, take n ys) ∷ tile_parts ws (drop n ys)) (sym l) in
    let g : FlatShapes Q ((w, take (size w) ys) ∷ tile_parts ws (drop (size w) ys)) =
    subst (FlatShapes Q) is (tile_before Q w own (tile_parts ws xs) t (λ began at. tile_so Q w.kind began at own k) (closed_flat Q c xs f)) in
    record { text = IsUtf8-nil; tiles = g.tiles; kept = g.kept }

atom_before : (Q : List ℕ → Type 0) (x : Item) (c : Cut) (xs : List Item) → IsAtom Q x → FlatCut Q c xs → FlatCut Q (add_tile (leaf kind.Atom 1) c) (x ∷ xs)
atom_before Q x c xs a f = tile_flat Q (leaf kind.Atom 1) (x ∷ []) c xs refl (record { alone = a.alone }) a.so f

-- characters before what follows them
taken_more : (bs : List ℕ) (n : ℕ) (xs : List Item) → take (length bs + n) (page_chars bs ++ xs) ≡ page_chars bs ++ take n xs
taken_more [] n xs = let z : 0 + n ≡ n = omega arith in ap (λ (m : ℕ). take m xs) z
taken_more (b ∷ bs) n xs =
    let z : length (b ∷ bs) + n ≡ suc (length bs + n) = omega arith in
    ap (λ (m : ℕ). take m (page_chars (b ∷ bs) ++ xs)) z ∙ ap (λ ys. char None b ∷ ys) (taken_more bs n xs)

dropped_more : (bs : List ℕ) (n : ℕ) (xs : List Item) → drop (length bs + n) (page_chars bs ++ xs) ≡ drop n xs
dropped_more [] n xs = let z : 0 + n ≡ n = omega arith in ap (λ (m : ℕ). drop m xs) z
dropped_more (b ∷ bs) n xs =
    let z : length (b ∷ bs) + n ≡ suc (length bs + n) = omega arith in
    ap (λ (m : ℕ). drop m (page_chars (b ∷ bs) ++ xs)) z ∙ dropped_more bs n xs

chars_source : (bs : List ℕ) (ys : List Item) → sources (page_chars bs ++ ys) ≡ bs ++ sources ys
chars_source [] ys = refl
chars_source (b ∷ bs) ys = ap (λ cs. b ∷ cs) (chars_source bs ys)

pub chars_before : (Q : List ℕ → Type 0) (bs : List ℕ) (c : Cut) (xs : List Item) → IsUtf8 bs → FlatCut Q c xs → FlatCut Q (add_chars (length bs) c) (page_chars bs ++ xs)
chars_before Q bs c xs u f = record {
  text = subst IsUtf8 (sym (ap sources (taken_more bs c.0 xs) ∙ chars_source bs (take c.0 xs))) (IsUtf8-append bs (sources (take c.0 xs)) u f.text);
  tiles = subst (λ (ys : List Item). AreFlatTiles (tile_parts c.1 ys)) (sym (dropped_more bs c.0 xs)) f.tiles;
  kept = λ began at. subst (λ (ys : List Item). EachSource Q (signs_of_tiles began at (tile_parts c.1 ys))) (sym (dropped_more bs c.0 xs)) (f.kept began at);
}

-- ---- a line, sign by sign

pub none_flat : (Q : List ℕ → Type 0) → FlatCut Q (0, []) []
none_flat Q = record { text = IsUtf8-nil; tiles = tt; kept = λ began at. tt }

pub guard_flat : (Q : List ℕ → Type 0) (p : HoldsOfPut Q) (u : Bool) (c : Cut) (xs : List Item) → FlatCut Q c xs → FlatCut Q (guard_cut u c) (guard_items u ++ xs)
guard_flat Q p true c xs f = atom_before Q (whole form.Nowiki None nowiki) c xs (nowiki_atom Q p) f
guard_flat Q p false c xs f = f

pub letter_flat : (Q : List ℕ → Type 0) (p : HoldsOfPut Q) (e : Bool) (d : ℕ) (c : Cut) (xs : List Item) → IsScalar d → (e ≡ true → is_escapable d ≡ true) → FlatCut Q c xs
    → FlatCut Q (letter_cut e d c) (letter_items e d ++ xs)
letter_flat Q p true d c xs s h f = atom_before Q (whole (form.Entity d) None (reference d)) c xs (reference_atom Q d p (h refl)) f
letter_flat Q p false d c xs s h f = chars_before Q (encode_utf8 d) c xs (IsUtf8-encode d s) f

pub letter_by : (Q : List ℕ → Type 0) (t e : Bool) (d : ℕ) (c : Cut) (xs : List Item) → FlatCut Q (letter_cut e d c) (letter_items e d ++ xs)
    → FlatCut Q (if t then (0, []) else letter_cut e d c) (if t then [] else letter_items e d ++ xs)
letter_by Q true e d c xs f = none_flat Q
letter_by Q false e d c xs f = f

pub node_flat : (Q : List ℕ → Type 0) (t : Thing) (c : Cut) (xs : List Item) → IsFlat t.role → IsNode t.role (own_glyphs t) → Q t.source → FlatCut Q c xs
    → FlatCut Q (add_node (own_form in_line (own_glyphs t)) (length (own_glyphs t)) c) (node_items t.source ++ xs)
node_flat Q t c xs f n k g =
    let h = has_form t.role (own_glyphs t) f n in
    let long : size h.shape ≡ length (node_items t.source) = h.whole ∙ glyphs_long (node_items t.source) in
    subst (λ (o : Option Shape). FlatCut Q (add_node o (length (own_glyphs t)) c) (node_items t.source ++ xs)) (sym h.alone)
    (tile_flat Q h.shape (node_items t.source) c xs long (node_tile t h.shape f n h.alone) (subst Q (sym (node_sources t.source)) k) g)

-- ---- lines

-- no line goes on over its end
pub no_break : (xs : List Item) → IsUnbroken xs → HasNoBreak xs
no_break [] h = tt
no_break (char o b ∷ xs) h = (h.0, no_break xs h.1)
no_break (whole f o bs ∷ xs) h = (tt, no_break xs h.1)

abbrev pub Unbroken : List (List Item) → Type 0
Unbroken [] = Unit {0}
Unbroken (l ∷ ls) = HasNoBreak l × Unbroken ls

pub unbroken_lines : (ls : List (List Item)) (xs : List Item) → AreLines ls xs → Unbroken ls
unbroken_lines [] xs h = tt
unbroken_lines (l ∷ []) xs h = (no_break l h.0, tt)
unbroken_lines (l ∷ m ∷ ls) xs h = (no_break l h.0, unbroken_lines (m ∷ ls) h.2 h.5)

-- ---- in other words

pub from_kept : (signs : List ContentSign) → AreKept signs → EachSource IsHeld signs
from_kept [] h = tt
from_kept (letter c ∷ after) h = from_kept after h
from_kept (thing t ∷ after) h = (h.0.0, from_kept after h.1)

-- each mark is as its role says
abbrev pub AreTied : List ContentSign → Type 0
AreTied [] = Unit {0}
AreTied (letter c ∷ after) = AreTied after
AreTied (thing t ∷ after) = EndsAsSaid t.role t.source × AreTied after

pub to_kept : (signs : List ContentSign) → AreTied signs → EachSource IsHeld signs → AreKept signs
to_kept [] d h = tt
to_kept (letter c ∷ after) d h = to_kept after d h
to_kept (thing t ∷ after) d h = ((h.0, d.0), to_kept after d.1 h.1)

tied_both : (xs ys : List ContentSign) → AreTied xs → AreTied ys → AreTied (xs ++ ys)
tied_both [] ys h k = k
tied_both (letter c ∷ xs) ys h k = tied_both xs ys h k
tied_both (thing t ∷ xs) ys h k = (h.0, tied_both xs ys h.1 k)

letters_tied : (cs : List ℕ) → AreTied (map letter cs)
letters_tied [] = tt
letters_tied (c ∷ cs) = letters_tied cs

atom_tied : (xs : List Item) (bs : List ℕ) → EndsAsSaid (atom_role xs) bs
atom_tied [] bs = tt
atom_tied (char o b ∷ xs) bs = tt
atom_tied (whole form.Chars o cs ∷ xs) bs = tt
atom_tied (whole (form.Entity c) o cs ∷ xs) bs = tt
atom_tied (whole form.Nowiki o cs ∷ xs) bs = tt
atom_tied (whole form.Extension o cs ∷ xs) bs = tt
atom_tied (whole form.Function o cs ∷ xs) bs = tt
atom_tied (whole form.Comment o cs ∷ xs) bs = tt
atom_tied (whole form.Include o cs ∷ xs) bs = tt
atom_tied (whole form.Hidden o cs ∷ xs) bs = tt
atom_tied (whole form.EmptyCall o cs ∷ xs) bs = tt

tile_tied : (k : TileKind) (began : Bool) (at : ℕ) (xs : List Item) → AreTied (tile_signs k began at xs)
tile_tied kind.Link began at xs = (tt, tt)
tile_tied kind.Category began at xs = (tt, tt)
tile_tied kind.Media began at xs = (tt, tt)
tile_tied kind.ExtLink began at xs = (tt, tt)
tile_tied kind.BareUrl began at xs = (tt, tt)
tile_tied kind.Br began at xs = (tt, tt)
tile_tied kind.Pair began at xs = (tt, tt)
tile_tied kind.TagIsland began at xs = (tt, tt)
tile_tied kind.Switch began at xs = (tt, tt)
tile_tied kind.Atom began at xs = (atom_tied xs (sources xs), tt)
tile_tied kind.Mark began at xs = (refl, tt)
tile_tied kind.Chars began at xs = letters_tied (chars (sources xs))

tiles_tied : (began : Bool) (at : ℕ) (ps : List (Shape × List Item)) → AreTied (signs_of_tiles began at ps)
tiles_tied began at [] = tt
tiles_tied began at ((w, xs) ∷ ps) =
    tied_both (tile_signs w.kind began at xs) (signs_of_tiles (ends_break (sources xs)) (at + length (sources xs)) ps) (tile_tied w.kind began at xs)
    (tiles_tied (ends_break (sources xs)) (at + length (sources xs)) ps)

pub lines_tied : (at : ℕ) (ls : List (List Item)) → AreTied (signs_of_lines at ls)
lines_tied at [] = tt
lines_tied at (xs ∷ []) = tiles_tied true at (tiles in_line xs)
lines_tied at (xs ∷ ys ∷ ls) =
    tied_both (line_signs at xs) (letter 10 ∷ signs_of_lines (at + length (sources xs) + 1) (ys ∷ ls)) (tiles_tied true at (tiles in_line xs))
    (lines_tied (at + length (sources xs) + 1) (ys ∷ ls))

pub from_shut : (signs : List ContentSign) → AreShut signs → EachSource IsShut signs
from_shut [] h = tt
from_shut (letter c ∷ after) h = from_shut after h
from_shut (thing t ∷ after) h = (h.0, from_shut after h.1)

pub to_shut : (signs : List ContentSign) → EachSource IsShut signs → AreShut signs
to_shut [] h = tt
to_shut (letter c ∷ after) h = to_shut after h
to_shut (thing t ∷ after) h = (h.0, to_shut after h.1)
