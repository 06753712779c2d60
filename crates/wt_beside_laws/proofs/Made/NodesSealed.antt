-- Each node of a content that stays ends each closing tag that begins in it: so what is written closes no tag behind it.
use Rattle.std.proofs.Common.{arith, ◌≡◌, ◌≢◌, ◌⊎◌, inl, inr, ℕ, zero, suc, ◌+◌, ◌-◌, ◌≤◌, ◌==◌, Bool, true, false, Option, Some, None, List, [], ◌∷◌, ◌++◌, length, map, take, drop, refl, sym, ap, ◌∙◌, subst, append_assoc}
use Rattle.std.specs.Prelude.{◌||◌, ◌&&◌, not, codes, if◌then◌else◌}
use Rattle.std.specs.Char.{to_ascii_lowercase}
use Rattle.std.specs.List.{list_all}
use Rattle.std.proofs.lemmas.Bool.{eqb-true}
use Rattle.std.proofs.lemmas.List.{length-drop}
use Rattle.std.proofs.lemmas.List.Elements.{All-contains}
use Rattle.wt_span.specs.declared.form.LexKind.{LexKind}
use Rattle.wt_span.specs.declared.form.LexKind.TheVariants as lex
use Rattle.wt_span.specs.declared.form.ItemForm.{ItemForm}
use Rattle.wt_span.specs.declared.form.ItemForm.TheVariants as form
use Rattle.wt_span.specs.Items.{Item, char, whole, source, sources, items_by}
use Rattle.wt_span.specs.Tags.{Tag as RawTag, opening_tag as raw_opening, is_nowiki}
use Rattle.wt_guards.specs.declared.role.Role.{Role}
use Rattle.wt_guards.specs.declared.role.Role.TheVariants.{Link, External, Bare, Switch, Toggle, Mark, Group, Function, Node}
use Rattle.wt_guards.specs.Content.{ContentSign, letter, thing}
use Rattle.wt_expand.specs.PageItems.{raw_form_by, items_of_word, page_items}
use Rattle.wt_tiles.specs.declared.glyph.Glyph.{Glyph}
use Rattle.wt_tiles.specs.declared.glyph.Glyph.TheVariants as glyph
use Rattle.wt_tiles.specs.declared.glyph.GlyphClass.TheVariants as class
use Rattle.wt_tiles.specs.declared.shape.Shape.{Shape}
use Rattle.wt_tiles.specs.declared.tag.Tag.{Tag}
use Rattle.wt_tiles.specs.declared.target.LinkKind.{LinkKind}
use Rattle.wt_tiles.specs.declared.target.LinkKind.TheVariants.{Page, Category, Media}
use Rattle.wt_tiles.specs.declared.target.Target.{Target}
use Rattle.wt_tiles.specs.Glyphs.{glyph_of, in_class, is_small, first_is, run_len, begins, begins_like, like_byte, byte_glyphs}
use Rattle.wt_tiles.specs.Links.{target_of, kind_of, target_len, inner_len, has_pipe, head_len, link_shape, link_with, link_to, link_by, link_in}
use Rattle.wt_tiles.specs.Partners.{number}
use Rattle.wt_tiles.specs.Searches.{IsHead}
use Rattle.wt_tiles.specs.Tags.{tag_at}
use Rattle.wt_tiles.specs.Tiles.{size, len_of, switch_names}
use Rattle.wt_tiles.specs.Urls.{scheme_len, is_url_char, is_url_glyph, url_run, url_items, kept_len, bare_url_of, bare_url_at}
use Rattle.wt_tiles.proofs.LinkFits.{head_within}
use Rattle.wt_text_edit_laws.specs.LonePages.{page_chars}
use Rattle.wt_text_edit_laws.specs.TextBetween.{EndsBy}
use Rattle.wt_beside_laws.specs.Content.{AreKept}
use Rattle.wt_beside_laws.specs.FlatBlocks.{IsSealed, AreSealed}
use Rattle.wt_beside_laws.specs.Kept.{Part, characters, sign, lexeme, is_lexeme_end, IsPart, AreParts, part_items, parts_items, IsKept}
use Rattle.wt_beside_laws.specs.Nodes.{IsLinkNode, IsExternalNode, IsBareNode, IsSwitchNode, IsDelimiter, IsCategoryNode, IsMediaNode, IsPair, IsTagNode, IsOneLexeme, IsNode, AreNodes}
use Rattle.wt_beside_laws.specs.Tiles.{IsPlainKind, IsCategoryKind, IsMediaKind, LeadsBy, AimsBy}
use Rattle.wt_beside_laws.proofs.Firm.{ReadsAs, alone_as, parts_read}
use Rattle.wt_beside_laws.proofs.LinkTiles.{with_made}
use Rattle.wt_beside_laws.proofs.Made.Sealed.{stops, none_sealed, byte_sealed, both_sealed, ends_sealed, last_ends}
use Rattle.wt_beside_laws.proofs.NodeEnds.{kept_most, partner_suffix, none_tagged}
use Rattle.wt_beside_laws.proofs.NodesEnd.{EndsWith, external_ends, ClosesAt, inner_by, second_is, inside_of, other_ends, aims_other, category_other, media_other, tag_ends}
use Rattle.wt_beside_laws.proofs.NodesStand.{EachIs, all_by}
use Rattle.wt_beside_laws.proofs.PairTiles.{HasTag, partner_tag}
use Rattle.wt_beside_laws.proofs.UrlFronts.{some_shape}
use Rattle.wt_beside_laws.specs.Commented.{IsCommentLine, LexemesEnd, IsHeld}
use Rattle.wt_typed_blocks.proofs.TextReads.{apart}
use Rattle.wt_text_edit_laws.specs.TextBetween.{HasNoTag}
use Rattle.wt_beside_laws.proofs.Marks.Shown.{comment_node, line_node, kept_node, read_node}
use Rattle.wt_beside_laws.proofs.NodeItems.{node_sources}
use Rattle.wt_beside_laws.specs.NodeItems.{node_items}

-- ---- lexemes

-- what a lexeme ends with
abbrev FormEnds : ItemForm → List ℕ → Type 0
FormEnds form.Chars bs = EndsBy stops bs
FormEnds (form.Entity c) bs = EndsBy stops bs
FormEnds form.Nowiki bs = EndsBy stops bs
FormEnds form.Extension bs = EndsBy stops bs
FormEnds form.Function bs = EndsBy stops bs
FormEnds form.Comment bs = IsSealed bs
FormEnds form.Include bs = EndsBy stops bs
FormEnds form.Hidden bs = EndsBy stops bs
FormEnds form.EmptyCall bs = EndsBy stops bs

abbrev FormsEnd : List Item → Type 0
FormsEnd [] = Unit {0}
FormsEnd (char o b ∷ xs) = FormsEnd xs
FormsEnd (whole f o bs ∷ xs) = FormEnds f bs × FormsEnd xs

both_end : (xs ys : List Item) → FormsEnd xs → FormsEnd ys → FormsEnd (xs ++ ys)
both_end [] ys h k = k
both_end (char o b ∷ xs) ys h k = both_end xs ys h k
both_end (whole f o bs ∷ xs) ys h k = (h.0, both_end xs ys h.1 k)

chars_end : (bs : List ℕ) → FormsEnd (page_chars bs)
chars_end [] = tt
chars_end (b ∷ bs) = chars_end bs

or_true : (a : Bool) {b : Bool} → b ≡ true → (a || b) ≡ true
or_true true e = refl
or_true false e = e

raw_word : (o : Option RawTag) (bs : List ℕ) → EndsBy stops bs → FormsEnd (items_by (raw_form_by o) None bs)
raw_word None bs l = (l, tt)
raw_word (Some t) bs l = by (is_nowiki t.name)
  where
    by : (v : Bool) → FormsEnd (items_by (if v then form.Nowiki else form.Extension) None bs)
    by true = (l, tt)
    by false = (l, tt)

word_ends : (kind : LexKind) (bs : List ℕ) → EndsBy stops bs → FormsEnd (items_of_word kind bs)
word_ends lex.Chars bs w = chars_end bs
word_ends lex.CommentLine bs w = (ends_sealed bs w, tt)
word_ends lex.Comment bs w = (ends_sealed bs w, tt)
word_ends lex.Raw bs w = raw_word (raw_opening bs) bs w
word_ends lex.Include bs w = (w, tt)
word_ends lex.Hidden bs w = (w, tt)
word_ends (lex.Entity c) bs w = (w, tt)
word_ends lex.Opens bs w = chars_end bs
word_ends lex.Closes bs w = chars_end bs
word_ends lex.LinkOpen bs w = chars_end bs
word_ends lex.LinkClose bs w = chars_end bs
word_ends lex.Pipe bs w = chars_end bs
word_ends lex.Equals bs w = chars_end bs

pub lexeme_stops : (bs : List ℕ) → EndsBy is_lexeme_end bs → EndsBy stops bs
lexeme_stops [] e = tt
lexeme_stops (b ∷ []) e = stops_at (b == 62) (b == 59) e
  where
    stops_at : (u v : Bool) → (u || v) ≡ true → (b == 93 || (u || (v || (b == 95 || (b == 39 || b == 125))))) ≡ true
    stops_at true v i = or_true (b == 93) refl
    stops_at false true i = or_true (b == 93) refl
    stops_at false false i = cc
lexeme_stops (b ∷ c ∷ cs) e = lexeme_stops (c ∷ cs) e

part_ends : (p : Part) → IsPart p → FormsEnd (part_items p)
part_ends (characters bs) h = chars_end bs
part_ends (sign b q) h = chars_end (b ∷ q)
part_ends (lexeme kind b q) h = word_ends kind (b ∷ q) (lexeme_stops (b ∷ q) h.ends)

parts_end : (ps : List Part) → AreParts ps → FormsEnd (parts_items ps)
parts_end [] h = tt
parts_end (p ∷ ps) h = both_end (part_items p) (parts_items ps) (part_ends p h.0) (parts_end ps h.1)

lexemes_end : (q : List ℕ) → IsKept q → FormsEnd (page_items q)
lexemes_end q h =
    let own : ReadsAs q (parts_items h.parts) = subst (λ bs. ReadsAs bs (parts_items h.parts)) h.is (parts_read h.parts h.are) in
    subst FormsEnd (sym (alone_as q (parts_items h.parts) own)) (parts_end h.parts h.are)

untagged_sealed : (bs : List ℕ) → HasNoTag bs → IsSealed bs
untagged_sealed [] h = none_sealed
untagged_sealed (b ∷ bs) h = both_sealed (b ∷ []) bs (byte_sealed b (apart b 60 h.0)) (untagged_sealed bs h.1)

-- behind the last `>` of a line of comments no tag begins
line_sealed : (q : List ℕ) → IsCommentLine q → IsSealed q
line_sealed q h =
    let is : q ≡ (h.before ++ 62 ∷ []) ++ h.behind = h.closed ∙ sym (append_assoc h.before (62 ∷ []) h.behind) in
    subst IsSealed (sym is)
    (both_sealed (h.before ++ 62 ∷ []) h.behind (ends_sealed (h.before ++ 62 ∷ []) (last_ends 62 h.before refl)) (untagged_sealed h.behind h.untagged))

item_ends : (f : ItemForm) (bs : List ℕ) → EndsBy is_lexeme_end bs → FormEnds f bs
item_ends form.Chars bs e = lexeme_stops bs e
item_ends (form.Entity c) bs e = lexeme_stops bs e
item_ends form.Nowiki bs e = lexeme_stops bs e
item_ends form.Extension bs e = lexeme_stops bs e
item_ends form.Function bs e = lexeme_stops bs e
item_ends form.Comment bs e = ends_sealed bs (lexeme_stops bs e)
item_ends form.Include bs e = lexeme_stops bs e
item_ends form.Hidden bs e = lexeme_stops bs e
item_ends form.EmptyCall bs e = lexeme_stops bs e

items_end : (xs : List Item) → LexemesEnd xs → FormsEnd xs
items_end [] h = tt
items_end (char o b ∷ xs) h = items_end xs h
items_end (whole f o bs ∷ xs) h = (item_ends f bs h.0, items_end xs h.1)

held_ends : (q : List ℕ) → IsHeld q → FormsEnd (node_items q)
held_ends q (inl k) = subst FormsEnd (sym (kept_node q k.0)) (lexemes_end q k.0)
held_ends q (inr (inl c)) =
    subst (λ bs. FormsEnd (node_items bs)) (sym c.is)
    (subst FormsEnd (sym (comment_node c.others c.comment)) (ends_sealed (60 ∷ c.others) (lexeme_stops (60 ∷ c.others) c.comment.ends), tt))
held_ends q (inr (inr (inr r))) = subst FormsEnd (sym (read_node q r)) (items_end (page_items q) r.ends)
held_ends q (inr (inr (inl l))) = subst FormsEnd (sym (line_node q l)) (line_sealed q l, tt)

-- ---- items without a `<` outside of lexemes

abbrev pub IsOther : Glyph → Type 0
IsOther (glyph.Byte b) = b ≢ 60
IsOther (glyph.Entity c) = Unit {0}
IsOther glyph.Atom = Unit {0}
IsOther glyph.Mark = Unit {0}

abbrev pub AreOthers : List Glyph → Type 0
AreOthers [] = Unit {0}
AreOthers (g ∷ gs) = IsOther g × AreOthers gs

form_sealed : (f : ItemForm) (bs : List ℕ) → FormEnds f bs → IsSealed bs
form_sealed form.Chars bs l = ends_sealed bs l
form_sealed (form.Entity c) bs l = ends_sealed bs l
form_sealed form.Nowiki bs l = ends_sealed bs l
form_sealed form.Extension bs l = ends_sealed bs l
form_sealed form.Function bs l = ends_sealed bs l
form_sealed form.Comment bs l = l
form_sealed form.Include bs l = ends_sealed bs l
form_sealed form.Hidden bs l = ends_sealed bs l
form_sealed form.EmptyCall bs l = ends_sealed bs l

others_sealed : (xs : List Item) → FormsEnd xs → AreOthers (map glyph_of xs) → IsSealed (sources xs)
others_sealed [] l u = none_sealed
others_sealed (char o b ∷ xs) l u = both_sealed (b ∷ []) (sources xs) (byte_sealed b u.0) (others_sealed xs l u.1)
others_sealed (whole f o bs ∷ xs) l u = both_sealed bs (sources xs) (form_sealed f bs l.0) (others_sealed xs l.1 u.1)

-- ---- items that end with a sign that stops tags, and letters that join a link

pub record IsTailed (c : ℕ) (gs : List Glyph) : Type 0 where
  pub at : ℕ
  pub stop : first_is (class.Only c) (drop at gs) ≡ true
  pub trail : run_len class.Trail (drop (suc at) gs) ≡ length (drop (suc at) gs)

pub record IsSplit (c : ℕ) (bs : List ℕ) : Type 0 where
  pub before : List ℕ
  pub behind : List ℕ
  pub is : bs ≡ (before ++ c ∷ []) ++ behind
  pub untagged : HasNoTag behind
  pub small : list_all is_small behind ≡ true

small_other : (b : ℕ) → is_small b ≡ true → (b == 60) ≡ false
small_other b e = by (b == 60) refl
  where
    by : (v : Bool) → (b == 60) ≡ v → v ≡ false
    by true i = let f : is_small 60 ≡ true = subst (λ (k : ℕ). is_small k ≡ true) (eqb-true b 60 i) e in absurd (cc)
    by false i = refl

letter_by : (x : Item) (xs : List Item) → in_class class.Trail (glyph_of x) ≡ true → HasNoTag (sources xs) → HasNoTag (sources (x ∷ xs))
letter_by (char o b) xs e h = (small_other b e, h)
letter_by (whole form.Chars o bs) xs e h = absurd (cc)
letter_by (whole (form.Entity c) o bs) xs e h = absurd (cc)
letter_by (whole form.Nowiki o bs) xs e h = absurd (cc)
letter_by (whole form.Extension o bs) xs e h = absurd (cc)
letter_by (whole form.Function o bs) xs e h = absurd (cc)
letter_by (whole form.Comment o bs) xs e h = absurd (cc)
letter_by (whole form.Include o bs) xs e h = absurd (cc)
letter_by (whole form.Hidden o bs) xs e h = absurd (cc)
letter_by (whole form.EmptyCall o bs) xs e h = absurd (cc)

letters_untagged : (xs : List Item) → run_len class.Trail (map glyph_of xs) ≡ length (map glyph_of xs) → HasNoTag (sources xs)
letters_untagged [] e = tt
letters_untagged (x ∷ xs) e = by (in_class class.Trail (glyph_of x)) refl e (λ f. letters_untagged xs f)
  where
    by : (t : Bool) → in_class class.Trail (glyph_of x) ≡ t → (if t then 1 + run_len class.Trail (map glyph_of xs) else 0) ≡ suc (length (map glyph_of xs))
        → (run_len class.Trail (map glyph_of xs) ≡ length (map glyph_of xs) → HasNoTag (sources xs)) → HasNoTag (sources (x ∷ xs))
    by true i f k = letter_by x xs i (k (omega (arith, f)))
    by false i f k = absurd (omega (arith, f))

and_both : (u v : Bool) → u ≡ true → v ≡ true → (u && v) ≡ true
and_both true v e f = f
and_both false v e f = e

small_by : (x : Item) (xs : List Item) → in_class class.Trail (glyph_of x) ≡ true → list_all is_small (sources xs) ≡ true → list_all is_small (sources (x ∷ xs)) ≡ true
small_by (char o b) xs e h = and_both (is_small b) (list_all is_small (sources xs)) e h
small_by (whole form.Chars o bs) xs e h = absurd (cc)
small_by (whole (form.Entity c) o bs) xs e h = absurd (cc)
small_by (whole form.Nowiki o bs) xs e h = absurd (cc)
small_by (whole form.Extension o bs) xs e h = absurd (cc)
small_by (whole form.Function o bs) xs e h = absurd (cc)
small_by (whole form.Comment o bs) xs e h = absurd (cc)
small_by (whole form.Include o bs) xs e h = absurd (cc)
small_by (whole form.Hidden o bs) xs e h = absurd (cc)
small_by (whole form.EmptyCall o bs) xs e h = absurd (cc)

letters_small : (xs : List Item) → run_len class.Trail (map glyph_of xs) ≡ length (map glyph_of xs) → list_all is_small (sources xs) ≡ true
letters_small [] e = refl
letters_small (x ∷ xs) e = by (in_class class.Trail (glyph_of x)) refl e (λ f. letters_small xs f)
  where
    by : (t : Bool) → in_class class.Trail (glyph_of x) ≡ t → (if t then 1 + run_len class.Trail (map glyph_of xs) else 0) ≡ suc (length (map glyph_of xs))
        → (run_len class.Trail (map glyph_of xs) ≡ length (map glyph_of xs) → list_all is_small (sources xs) ≡ true) → list_all is_small (sources (x ∷ xs)) ≡ true
    by true i f k = small_by x xs i (k (omega (arith, f)))
    by false i f k = absurd (omega (arith, f))

only_is : (c : ℕ) (x : Item) → in_class (class.Only c) (glyph_of x) ≡ true → source x ≡ c ∷ []
only_is c (char o b) e = ap (λ (k : ℕ). k ∷ []) (eqb-true b c e)
only_is c (whole form.Chars o bs) e = absurd (cc)
only_is c (whole (form.Entity d) o bs) e = absurd (cc)
only_is c (whole form.Nowiki o bs) e = absurd (cc)
only_is c (whole form.Extension o bs) e = absurd (cc)
only_is c (whole form.Function o bs) e = absurd (cc)
only_is c (whole form.Comment o bs) e = absurd (cc)
only_is c (whole form.Include o bs) e = absurd (cc)
only_is c (whole form.Hidden o bs) e = absurd (cc)
only_is c (whole form.EmptyCall o bs) e = absurd (cc)

pub split_at : (c k : ℕ) (xs : List Item) → first_is (class.Only c) (drop k (map glyph_of xs)) ≡ true
    → run_len class.Trail (drop (suc k) (map glyph_of xs)) ≡ length (drop (suc k) (map glyph_of xs)) → IsSplit c (sources xs)
split_at c zero [] e f = absurd (cc)
split_at c (suc k) [] e f = absurd (cc)
split_at c zero (x ∷ []) e f =
    record { before = []; behind = []; is = ap (λ (bs : List ℕ). bs ++ []) (only_is c x e); untagged = tt; small = refl }
split_at c zero (x ∷ y ∷ xs) e f =
    record {
      before = [];
      behind = sources (y ∷ xs);
      is = ap (λ (bs : List ℕ). bs ++ sources (y ∷ xs)) (only_is c x e);
      untagged = letters_untagged (y ∷ xs) f;
      small = letters_small (y ∷ xs) f;
    }
split_at c (suc k) (x ∷ xs) e f =
    let more = split_at c k xs e f in
    record {
      before = source x ++ more.before;
      behind = more.behind;
      is = ap (λ (bs : List ℕ). source x ++ bs) more.is ∙ sym (append_assoc (source x) (more.before ++ c ∷ []) more.behind)
          ∙ ap (λ (bs : List ℕ). bs ++ more.behind) (sym (append_assoc (source x) more.before (c ∷ [])));
      untagged = more.untagged;
      small = more.small;
    }

tailed_sealed : (c : ℕ) (xs : List Item) → stops c ≡ true → IsTailed c (map glyph_of xs) → IsSealed (sources xs)
tailed_sealed c xs e t =
    let s = split_at c t.at xs t.stop t.trail in
    subst IsSealed (sym s.is) (both_sealed (s.before ++ c ∷ []) s.behind (ends_sealed (s.before ++ c ∷ []) (last_ends c s.before e)) (untagged_sealed s.behind s.untagged))

nothing_left : (k : ℕ) (gs : List Glyph) → k ≡ length gs → run_len class.Trail (drop k gs) ≡ length (drop k gs)
nothing_left zero [] e = refl
nothing_left zero (g ∷ gs) e = absurd (omega (arith, e))
nothing_left (suc k) [] e = absurd (omega (arith, e))
nothing_left (suc k) (g ∷ gs) e = nothing_left k gs (omega (arith, e))

ends_tailed : (c : ℕ) (gs : List Glyph) → EndsWith c gs → IsTailed c gs
ends_tailed c gs e = record { at = e.0; stop = e.2; trail = nothing_left (suc e.0) gs e.1 }

tailed_more : (c : ℕ) (g : Glyph) (gs : List Glyph) → IsTailed c gs → IsTailed c (g ∷ gs)
tailed_more c g gs t = record { at = suc t.at; stop = t.stop; trail = t.trail }

tailed_drop : (c i : ℕ) (gs : List Glyph) → IsTailed c (drop i gs) → IsTailed c gs
tailed_drop c zero [] t = t
tailed_drop c zero (g ∷ gs) t = t
tailed_drop c (suc i) [] t = t
tailed_drop c (suc i) (g ∷ gs) t = tailed_more c g gs (tailed_drop c i gs t)

-- ---- links

page_tailed : (j r : ℕ) (gs : List Glyph) → ClosesAt gs j → run_len class.Trail (drop (j + 2) gs) ≡ r → j + 2 + r ≡ length gs → IsTailed 93 gs
page_tailed j r gs c e full =
    let cut : length (drop (j + 2) gs) ≡ length gs - (j + 2) = length-drop (j + 2) gs in
    let all : run_len class.Trail (drop (j + 2) gs) ≡ length (drop (j + 2) gs) = omega (arith, cut, full, e) in
    let two : j + 2 ≡ suc (suc j) = omega arith in
    record {
      at = suc j;
      stop = second_is j gs c;
      trail = subst (λ (n : ℕ). run_len class.Trail (drop n gs) ≡ length (drop n gs)) two all;
    }

plain_tailed : (k : LinkKind) (head j : ℕ) (gs : List Glyph) → IsPlainKind k → IsHead k head j → ClosesAt gs j
    → size (link_shape k head j gs) ≡ 2 + length gs → IsTailed 93 gs
plain_tailed Page head j gs a h c e =
    let le : head ≤ j = h in
    page_tailed j (run_len class.Trail (drop (j + 2) gs)) gs c refl (omega (arith, e, le))
plain_tailed Category head j gs a h c e = ends_tailed 93 gs (suc j, omega (arith, e), second_is j gs c)
plain_tailed Media head j gs a h c e = absurd a

with_tailed : (t : Target) (n : ℕ) (o : Option ℕ) (gs : List Glyph) (w : Shape) → IsPlainKind (kind_of t)
    → inner_len (kind_of t) n gs ≡ o → link_with t n o gs ≡ Some w → size w ≡ 2 + length gs → IsTailed 93 gs
with_tailed t n None gs w h i e full = absurd (cc)
with_tailed t n (Some j) gs w h i e full =
    let head : ℕ = head_len t.colon n gs in
    let m = with_made (has_pipe n gs && j == n + 1) (link_shape (kind_of t) head j gs) w e in
    plain_tailed (kind_of t) head j gs h (head_within (kind_of t) t.colon n j gs (Some j) (sym i) refl) (inner_by (kind_of t) n j gs i)
    (ap size m.1 ∙ full)

to_tailed : (o : Option Target) (n : ℕ) (gs : List Glyph) (w : Shape) → LeadsBy IsPlainKind o → link_to o n gs ≡ Some w
    → size w ≡ 2 + length gs → IsTailed 93 gs
to_tailed None n gs w h e full = absurd (cc)
to_tailed (Some t) n gs w h e full = with_tailed t n (inner_len (kind_of t) n gs) gs w h refl e full

by_tailed : (o : Option ℕ) (gs : List Glyph) (w : Shape) → AimsBy IsPlainKind o gs → link_by o gs ≡ Some w → size w ≡ 2 + length gs → IsTailed 93 gs
by_tailed None gs w h e full = absurd (cc)
by_tailed (Some n) gs w h e full = to_tailed (target_of (take n gs)) n gs w h e full

in_tailed : (gs : List Glyph) (w : Shape) → AimsBy IsPlainKind (target_len gs) gs → link_in gs ≡ Some w → size w ≡ 2 + length gs → IsTailed 93 gs
unfolding link_in
in_tailed gs w h e full = by_tailed (target_len gs) gs w h e full

pub link_tailed : (own : List Glyph) → IsLinkNode own → IsTailed 93 own
link_tailed own n =
    let full : size n.shape ≡ 2 + length n.inside = n.whole ∙ ap length n.is ∙ omega arith in
    subst (IsTailed 93) (sym n.is)
    (tailed_drop 93 2 (glyph.Byte 91 ∷ glyph.Byte 91 ∷ n.inside) (in_tailed n.inside n.shape n.plain (inside_of n.inside n.shape n.link) full))

pub category_tailed : (own : List Glyph) → IsCategoryNode own → IsTailed 93 own
category_tailed own n =
    let full : size n.shape ≡ 2 + length n.inside = n.whole ∙ ap length n.is ∙ omega arith in
    subst (IsTailed 93) (sym n.is)
    (ends_tailed 93 (glyph.Byte 91 ∷ glyph.Byte 91 ∷ n.inside)
    (other_ends n.inside n.shape (aims_other IsCategoryKind category_other (target_len n.inside) n.inside n.category) n.link full))

pub media_tailed : (own : List Glyph) → IsMediaNode own → IsTailed 93 own
media_tailed own n =
    let full : size n.shape ≡ 2 + length n.inside = n.whole ∙ ap length n.is ∙ omega arith in
    let aims : AimsBy IsMediaKind (target_len n.inside) n.inside =
    subst (λ (o : Option ℕ). AimsBy IsMediaKind o n.inside) (sym n.media.target) n.media.kind in
    subst (IsTailed 93) (sym n.is)
    (ends_tailed 93 (glyph.Byte 91 ∷ glyph.Byte 91 ∷ n.inside)
    (other_ends n.inside n.shape (aims_other IsMediaKind media_other (target_len n.inside) n.inside aims) n.link full))

pub external_tailed : (own : List Glyph) → IsExternalNode own → IsTailed 93 own
external_tailed own n =
    subst (IsTailed 93) (sym n.is)
    (ends_tailed 93 (glyph.Byte 91 ∷ n.inside) (external_ends (glyph.Byte 91) n.inside n.shape n.link (n.whole ∙ ap length n.is)))

-- ---- tags

whole_tag : (gs : List Glyph) → HasTag (tag_at gs) → len_of (tag_at gs) ≡ length gs → IsTailed 62 gs
whole_tag [] h e = absurd (none_tagged h)
whole_tag (g ∷ gs) h e = by (tag_at (g ∷ gs)) refl h e
  where
    by : (o : Option Tag) → tag_at (g ∷ gs) ≡ o → HasTag o → len_of o ≡ length (g ∷ gs) → IsTailed 62 (g ∷ gs)
    by None i y z = absurd y
    by (Some t) i y z = ends_tailed 62 (g ∷ gs) (tag_ends g gs t i z)

pair_tailed : (t : Tag) (own : List Glyph) → IsPair t own → IsTailed 62 own
pair_tailed t own n =
    let r = partner_suffix (number n.name) 0 (drop t.len own) n.last n.closing in
    let last : IsTailed 62 n.last = whole_tag n.last (partner_tag (number n.name) 0 (drop t.len own) n.last n.closing) n.ends in
    tailed_drop 62 t.len own (tailed_drop 62 r.0 (drop t.len own) (subst (IsTailed 62) (sym r.1) last))

pub tag_tailed : (own : List Glyph) → IsTagNode own → IsTailed 62 own
tag_tailed own n = subst (IsTailed 62) (sym n.is) (elim n.ends [
  | inl all ↦ ends_tailed 62 (glyph.Byte 60 ∷ n.others) (tag_ends (glyph.Byte 60) n.others n.named n.tagged all)
  | inr pair ↦ pair_tailed n.named (glyph.Byte 60 ∷ n.others) pair
])

-- ---- bare URLs

url_other : (g : Glyph) → is_url_glyph g ≡ true → IsOther g
unfolding is_url_char
url_other (glyph.Byte b) e = λ is. let f : is_url_glyph (glyph.Byte 60) ≡ true = subst (λ (k : ℕ). is_url_glyph (glyph.Byte k) ≡ true) is e in absurd (cc)
url_other (glyph.Entity c) e = tt
url_other glyph.Atom e = tt
url_other glyph.Mark e = tt

run_others : (us : List Glyph) → length us ≤ url_run us → AreOthers us
run_others [] le = tt
run_others (u ∷ us) le = by (is_url_glyph u) (not (begins (codes "''") (u ∷ us))) refl le (λ z. run_others us z)
  where
    by : (t v : Bool) → is_url_glyph u ≡ t → suc (length us) ≤ (if t && v then suc (url_run us) else 0) → (length us ≤ url_run us → AreOthers us)
        → AreOthers (u ∷ us)
    by true true i z k = (url_other u i, k (omega (arith, z)))
    by true false i z k = absurd (omega (arith, z))
    by false v i z k = absurd (omega (arith, z))

-- a word without a `<`, without ASCII case
like_other : (b : ℕ) (g : Glyph) → (b == 60) ≡ false → like_byte b g ≡ true → IsOther g
like_other b (glyph.Byte c) n e = λ is.
    let f : (to_ascii_lowercase 60 == b) ≡ true = subst (λ (k : ℕ). (to_ascii_lowercase k == b) ≡ true) is e in
    let same : 60 ≡ b = eqb-true 60 b f in
    let no : (60 == 60) ≡ false = subst (λ (k : ℕ). (k == 60) ≡ false) (sym same) n in
    absurd (cc)
like_other b (glyph.Entity c) n e = tt
like_other b glyph.Atom n e = tt
like_other b glyph.Mark n e = tt

abbrev AreNoLess : List ℕ → Type 0
AreNoLess [] = Unit {0}
AreNoLess (b ∷ bs) = ((b == 60) ≡ false) × AreNoLess bs

both_true : (a b : Bool) → (a && b) ≡ true → (a ≡ true) × (b ≡ true)
both_true true b e = (refl, e)
both_true false b e = absurd (cc)

word_others : (word : List ℕ) (gs : List Glyph) → AreNoLess word → begins_like word gs ≡ true → AreOthers (take (length word) gs)
word_others [] [] n e = tt
word_others [] (g ∷ gs) n e = tt
word_others (b ∷ word) [] n e = absurd (cc)
word_others (b ∷ word) (g ∷ gs) n e =
    let r = both_true (like_byte b g) (begins_like word gs) e in
    (like_other b g n.0 r.0, word_others word gs n.1 r.1)

none_taken : (gs : List Glyph) → AreOthers (take 0 gs)
none_taken [] = tt
none_taken (g ∷ gs) = tt

scheme_others : (gs : List Glyph) → AreOthers (take (scheme_len gs) gs)
unfolding scheme_len
scheme_others gs = by (begins_like (codes "http://") gs) (begins_like (codes "https://") gs) (begins_like (codes "ftp://") gs) refl refl refl
  where
    by : (a b c : Bool) → begins_like (codes "http://") gs ≡ a → begins_like (codes "https://") gs ≡ b → begins_like (codes "ftp://") gs ≡ c
        → AreOthers (take (if a then 7 else (if b then 8 else (if c then 6 else 0))) gs)
    by true b c x y z = word_others (codes "http://") gs (refl, (refl, (refl, (refl, (refl, (refl, (refl, tt))))))) x
    by false true c x y z = word_others (codes "https://") gs (refl, (refl, (refl, (refl, (refl, (refl, (refl, (refl, tt)))))))) y
    by false false true x y z = word_others (codes "ftp://") gs (refl, (refl, (refl, (refl, (refl, (refl, tt)))))) z
    by false false false x y z = none_taken gs

two_others : (n : ℕ) (gs : List Glyph) → AreOthers (take n gs) → AreOthers (drop n gs) → AreOthers gs
two_others zero [] h k = tt
two_others zero (g ∷ gs) h k = k
two_others (suc n) [] h k = tt
two_others (suc n) (g ∷ gs) h k = (h.0, two_others n gs h.1 k)

bare_others : (gs : List Glyph) (w : Shape) → bare_url_of (scheme_len gs) (kept_len (url_items gs)) ≡ Some w → size w ≡ length gs → AreOthers gs
bare_others gs w e full =
    let s : ℕ = scheme_len gs in
    let us : List Glyph = drop s gs in
    let m = some_shape s (kept_len (url_items gs)) w e in
    let long : size w ≡ s + kept_len (url_items gs) = m.2 in
    let kept : kept_len (url_items gs) ≤ length (url_items gs) = kept_most (url_items gs) in
    let cut : length us ≡ length gs - s = length-drop s gs in
    let taken : length (take (url_run us) us) ≤ url_run us = take_most (url_run us) us in
    two_others s gs (scheme_others gs) (run_others us (omega (arith, full, long, kept, cut, taken)))
  where
    take_most : (n : ℕ) (xs : List Glyph) → length (take n xs) ≤ n
    take_most zero [] = omega arith
    take_most zero (x ∷ xs) = omega arith
    take_most (suc n) [] = omega arith
    take_most (suc n) (x ∷ xs) = let le : length (take n xs) ≤ n = take_most n xs in omega (arith, le)

bare_of : (gs : List Glyph) (w : Shape) → bare_url_at false gs ≡ Some w → bare_url_of (scheme_len gs) (kept_len (url_items gs)) ≡ Some w
unfolding bare_url_at
bare_of gs w e = e

pub url_others : (own : List Glyph) → IsBareNode own → AreOthers own
url_others own n =
    subst AreOthers (sym n.is)
    (bare_others (glyph.Byte n.first ∷ n.others) n.shape (bare_of (glyph.Byte n.first ∷ n.others) n.shape n.url) (n.whole ∙ ap length n.is))

-- ---- other nodes

bytes_other : (bs : List ℕ) → AreNoLess bs → AreOthers (byte_glyphs bs)
bytes_other [] h = tt
bytes_other (b ∷ bs) h = (differs b h.0, bytes_other bs h.1)
  where
    differs : (c : ℕ) → (c == 60) ≡ false → c ≢ 60
    differs c e = λ is. let f : (60 == 60) ≡ false = subst (λ (k : ℕ). (k == 60) ≡ false) is e in absurd (cc)

less_free : List ℕ → Bool
less_free [] = true
less_free (b ∷ bs) = not (b == 60) && less_free bs

free_less : (bs : List ℕ) → less_free bs ≡ true → AreNoLess bs
unfolding less_free
free_less [] e = tt
free_less (b ∷ bs) e = let r = both_true (not (b == 60)) (less_free bs) e in (unequal (b == 60) r.0, free_less bs r.1)
  where
    unequal : (t : Bool) → not t ≡ true → t ≡ false
    unequal true e = absurd (cc)
    unequal false e = refl

each_switch : EachIs (λ word. less_free word ≡ true) switch_names
unfolding switch_names less_free
each_switch = (refl, (refl, (refl, (refl, (refl, (refl, (refl, (refl, (refl, tt)))))))))

pub switch_others : (own : List Glyph) → IsSwitchNode own → AreOthers own
switch_others own n =
    let word : less_free n.word ≡ true =
    All-contains (λ word. less_free word ≡ true) switch_names n.word (all_by (λ word. less_free word ≡ true) switch_names each_switch) n.named in
    subst AreOthers (sym n.is) (bytes_other (95 ∷ 95 ∷ n.word) (refl, (refl, free_less n.word word)))

pub delimiter_others : (own : List Glyph) → IsDelimiter own → AreOthers own
delimiter_others own n = elim n [
  | inl i ↦ subst AreOthers (sym i) (bytes_other (codes "''") (refl, (refl, tt)))
  | inr i ↦ subst AreOthers (sym i) (bytes_other (codes "'''") (refl, (refl, (refl, tt))))
]

pub lexeme_others : (own : List Glyph) → IsOneLexeme own → AreOthers own
lexeme_others own n = elim n [
  | inl i ↦ subst AreOthers (sym i) (tt, tt)
  | inr i ↦ subst AreOthers (sym i.1) (tt, tt)
]

pub mark_others : (own : List Glyph) → own ≡ glyph.Mark ∷ [] → AreOthers own
mark_others own i = subst AreOthers (sym i) (tt, tt)

-- ---- all nodes

other_sealed : (xs : List Item) → FormsEnd xs → (let own = map glyph_of xs in IsOneLexeme own ⊎ (IsTagNode own ⊎ (IsCategoryNode own ⊎ IsMediaNode own)))
    → IsSealed (sources xs)
other_sealed xs l n = elim n [
  | inl one ↦ others_sealed xs l (lexeme_others (map glyph_of xs) one)
  | inr other ↦ elim other [
    | inl tag ↦ tailed_sealed 62 xs refl (tag_tailed (map glyph_of xs) tag)
    | inr link ↦ elim link [
      | inl category ↦ tailed_sealed 93 xs refl (category_tailed (map glyph_of xs) category)
      | inr media ↦ tailed_sealed 93 xs refl (media_tailed (map glyph_of xs) media)
    ]
  ]
]

node_sealed : (r : Role) (xs : List Item) → FormsEnd xs → IsNode r (map glyph_of xs) → IsSealed (sources xs)
node_sealed Link xs l n = tailed_sealed 93 xs refl (link_tailed (map glyph_of xs) n)
node_sealed External xs l n = tailed_sealed 93 xs refl (external_tailed (map glyph_of xs) n)
node_sealed (Bare ends) xs l n = others_sealed xs l (url_others (map glyph_of xs) n)
node_sealed Switch xs l n = others_sealed xs l (switch_others (map glyph_of xs) n)
node_sealed Toggle xs l n = others_sealed xs l (delimiter_others (map glyph_of xs) n)
node_sealed (Mark ends began) xs l n = others_sealed xs l (mark_others (map glyph_of xs) n)
node_sealed (Group g) xs l n = absurd n
node_sealed Function xs l n = others_sealed xs l (lexeme_others (map glyph_of xs) n)
node_sealed Node xs l n = other_sealed xs l n

pub nodes_sealed : (signs : List ContentSign) → AreNodes signs → AreKept signs → AreSealed signs
nodes_sealed [] n k = tt
nodes_sealed (letter c ∷ after) n k = nodes_sealed after n k
nodes_sealed (thing t ∷ after) n k = (
  subst IsSealed (node_sources t.source) (node_sealed t.role (node_items t.source) (held_ends t.source k.0.0) n.0),
  nodes_sealed after n.1 k.1,
)
