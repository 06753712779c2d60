-- A paragraph or a heading of a page, by its items there: it is read so by itself, and is a content that may be edited, where it isn't tangled.
use Rattle.std.proofs.Common.{arith, ◌≡◌, ◌≤◌, ℕ, zero, suc, Bool, true, false, None, List, [], ◌∷◌, ◌++◌, map, refl, sym, ap, ◌∙◌, subst, append-nil, append_assoc, cond, ◌+◌}
use Rattle.std.specs.Prelude.{All, ◌||◌}
use Rattle.std.specs.Str.{IsUtf8}
use Rattle.std.proofs.lemmas.Grind.{flat_map-append}
use Rattle.wt_span.specs.declared.form.Mode.TheVariants.{Page}
use Rattle.wt_span.specs.Bytes.{is_break}
use Rattle.wt_span.specs.Items.{Item, char, is_mark, sign, source, sources}
use Rattle.wt_span.specs.Origins.{Expanded}
use Rattle.wt_tree.specs.Tiling.{HasNoGroup, NoneIsGroup}
use Rattle.wt_tree.specs.Tree.{Label, Tree, tree, Trees, none, more}
use Rattle.wt_blocks.specs.Headings.{level}
use Rattle.wt_checks.specs.Kept.{children as nodes_in}
use Rattle.wt_expand.specs.PageItems.{page_items}
use Rattle.wt_isolation.specs.OpenTags.{before, ends_open, any_ends_open}
use Rattle.wt_isolation.specs.TextCalls.{touches_text_call}
use Rattle.wt_lines.specs.Lines.{lines}
use Rattle.wt_page.specs.Rows.{marks_len}
use Rattle.wt_part_laws.specs.Placeless.{placeless, all_placeless}
use Rattle.wt_part_laws.specs.Standing.{standing}
use Rattle.wt_part_laws.proofs.Moved.{moved}
use Rattle.wt_selser.specs.Edits.{is_tangled}
use Rattle.wt_selser.specs.GroupFaults.{has_faulty_group}
use Rattle.wt_typed_blocks.proofs.Forms.{other_byte}
use Rattle.wt_text_edit_laws.specs.Contents.{AreParagraphLines, IsHeadingLine, IsContentOf, IsContent}
use Rattle.wt_text_edit_laws.specs.LonePages.{page_chars}
use Rattle.wt_text_edit_laws.specs.NoCalls.{Brace, braces, NonePairs, CallsNothing, IsSome, braces_of}
use Rattle.wt_text_edit_laws.specs.PageCuts.{AreTextItems, AreHeadingItems, AreBlockItems, IsUntangledAt, IsFreeBlock, EndsThere, EndsClosed}
use Rattle.wt_text_edit_laws.specs.Paragraphs.{IsSeenLine}
use Rattle.wt_text_edit_laws.specs.ReadContents.{begins_seen}
use Rattle.wt_text_edit_laws.specs.TextBetween.{BeginsSeen}
use Rattle.wt_text_edit_laws.specs.TextBlocks.{TextBlock, a_paragraph, a_heading, source_of, block_items, block_tree}
use Rattle.wt_text_edit_laws.specs.TypedHeadings.{Sides, AreIdle, equals, opening, heading_line, IsInside}
use Rattle.wt_text_edit_laws.proofs.Between.BraceWords.{pairs_behind}
use Rattle.wt_text_edit_laws.proofs.Between.Fronts.{items_from, byte_from}
use Rattle.wt_text_edit_laws.proofs.Between.LessBraces.{all_some, some_both, pairs_some, BeginsUnbraced, items_before_start}
use Rattle.wt_text_edit_laws.proofs.Between.LineComments.{lines_ended}
use Rattle.wt_text_edit_laws.proofs.Blocks.Untangled.{opens_same}
use Rattle.wt_text_edit_laws.proofs.Cuts.HeadingCuts.{heading_cut, heading_source}
use Rattle.wt_text_edit_laws.proofs.Cuts.ItemCuts.{front_alone, page_from}
use Rattle.wt_text_edit_laws.proofs.Cuts.Seen.{shown_alone, seen_either}
use Rattle.wt_text_edit_laws.proofs.Cuts.Utf8Cuts.{heading_utf8}
use Rattle.wt_text_edit_laws.proofs.Paragraphs.SeenLines.{lines_seen, seen_before}
use Rattle.wt_text_edit_laws.proofs.Paragraphs.Texts.{here_begins, one_line}
use Rattle.wt_text_edit_laws.proofs.Prose.InFront.{reads_nothing, read_items}
use Rattle.wt_text_edit_laws.proofs.Prose.Uncommented.{BeginsUncommented}
use Rattle.wt_selser.proofs.NoGroups.{untangled}
use Rattle.wt_beside_laws.proofs.Derived.NodesHave.{NodesHave}
use Rattle.wt_beside_laws.proofs.Made.OldBlocks.{no_group}
use Rattle.wt_beside_laws.proofs.OwnItems.{content_own}

-- ---- its source, and what is behind it

pub block_source : (k : TextBlock) (q : List ℕ) (xs : List Item) → AreBlockItems k q xs → sources xs ≡ source_of k q
block_source a_paragraph q xs h = h.source
block_source (a_heading s) q xs h = heading_source s q xs h

pub there_begins : (rest : List ℕ) → EndsThere rest → BeginsUncommented rest
there_begins [] e = record { is = refl }
there_begins (b ∷ rest) e = here_begins (b ∷ rest) e

-- the items behind a line break
pub record BreakFirst (r : List ℕ) (zs : List Item) : Type 0 where
  pub more : List Item
  pub is : zs ≡ char None 10 ∷ more

pub break_first : (r : List ℕ) (zs : List Item) → page_items (10 ∷ r) ≡ zs → BreakFirst r zs
break_first r zs e = record {
  more = items_from (is_break 10) 0 r;
  is = sym e ∙ page_from (10 ∷ r) ∙ byte_from false 10 r (other_byte Page 10 r refl);
}

-- ---- it is read so by itself, whether a line break is behind it or the page ends there

pub record ReadAlone (line : List ℕ) (own : List Item) : Type 0 where
  pub unended : page_items line ≡ own
  pub ended : page_items (line ++ 10 ∷ []) ≡ own ++ char None 10 ∷ []

ended_by : (line : List ℕ) (own : List Item) (r : List ℕ) (rest : List Item) → sources own ≡ line → page_items (line ++ 10 ∷ r) ≡ own ++ rest
    → page_items (10 ∷ r) ≡ rest → page_items (line ++ 10 ∷ []) ≡ own ++ char None 10 ∷ []
ended_by line own r rest is e behind =
    let break : List Item = char None 10 ∷ [] in
    let first = break_first r rest behind in
    let all : page_items ((line ++ 10 ∷ []) ++ r) ≡ (own ++ break) ++ first.more =
    ap page_items (append_assoc line (10 ∷ []) r) ∙ e ∙ ap (λ (ys : List Item). own ++ ys) first.is ∙ sym (append_assoc own break first.more) in
    let size : sources (own ++ break) ≡ line ++ 10 ∷ [] = flat_map-append source own break ∙ ap (λ (bs : List ℕ). bs ++ 10 ∷ []) is in
    front_alone (line ++ 10 ∷ []) r (own ++ break) first.more all size

pub read_alone : (line : List ℕ) (own : List Item) (rest : List ℕ) (zs : List Item) → sources own ≡ line → EndsThere rest → EndsClosed line rest
    → page_items (line ++ rest) ≡ own ++ zs → page_items rest ≡ zs → ReadAlone line own
read_alone line own [] zs is e c all behind =
    let alone : page_items line ≡ own = front_alone line [] own zs all is in
    record { unended = alone; ended = c ∙ ap (λ (ys : List Item). ys ++ char None 10 ∷ []) alone }
read_alone line own (b ∷ r) zs is e c all behind =
    let P : ℕ → Type 0 = λ (x : ℕ). page_items (line ++ x ∷ r) ≡ own ++ zs → page_items (x ∷ r) ≡ zs → page_items (line ++ 10 ∷ []) ≡ own ++ char None 10 ∷ [] in
    record {
      unended = front_alone line (b ∷ r) own zs all is;
      ended = subst P (sym e) (λ f g. ended_by line own r zs is f g) all behind;
    }

-- ---- a paragraph

paragraph_lines : (q : List ℕ) (xs : List Item) → AreTextItems q xs → ReadAlone q xs → AreParagraphLines q
paragraph_lines q xs h r = record {
  seen = subst (λ (ys : List Item). All IsSeenLine (lines ys)) (sym r.unended) h.seen;
  unled = subst (λ (ys : List Item). marks_len ys ≡ 0) (sym r.unended) h.unled;
}

-- ---- a heading

heading_items : (s : Sides) (q : List ℕ) (xs : List Item) (h : AreHeadingItems s q xs) → page_items q ≡ h.own → page_items s.rest ≡ h.rest
    → heading_line s (page_items q) ≡ xs
heading_items s q xs h e f =
    let signs : List Item = page_chars (s.trail ++ equals s.level) in
    ap (λ (ys : List Item). page_chars (opening s) ++ (ys ++ (signs ++ page_items s.rest))) e
    ∙ ap (λ (ys : List Item). page_chars (opening s) ++ (h.own ++ (signs ++ ys))) f ∙ sym h.is

record HeadingRead (s : Sides) (q : List ℕ) (xs : List Item) (h : AreHeadingItems s q xs) : Type 0 where
  own : page_items q ≡ h.own
  rest : page_items s.rest ≡ h.rest
  ended : page_items (s.rest ++ 10 ∷ []) ≡ h.rest ++ char None 10 ∷ []

heading_read : (s : Sides) (q : List ℕ) (xs : List Item) (h : AreHeadingItems s q xs) → ReadAlone (source_of (a_heading s) q) xs → HeadingRead s q xs h
heading_read s q xs h r =
    let line : List ℕ = source_of (a_heading s) q in
    let alone : page_items (line ++ []) ≡ xs ++ [] = ap page_items (append-nil line) ∙ r.unended ∙ sym (append-nil xs) in
    let first = heading_cut s q xs h [] [] alone in
    let second = heading_cut s q xs h (10 ∷ []) (char None 10 ∷ []) r.ended in
    record {
      own = first.own_is;
      rest = sym (ap page_items (append-nil s.rest)) ∙ first.rest_is ∙ append-nil h.rest;
      ended = second.rest_is;
    }

heading_is : (s : Sides) (q : List ℕ) (xs : List Item) (h : AreHeadingItems s q xs) → IsUtf8 s.rest → HeadingRead s q xs h → IsHeadingLine s q
heading_is s q xs h u r = record {
  frame = record {
    sides = record {
      some = h.some;
      most = h.most;
      lead = h.lead;
      trail = h.trail;
      rest = subst (λ (ys : List Item). AreIdle (map sign ys)) (sym r.rest) h.idle;
    };
    utf8 = u;
    stands = record { ends = lines_ended (s.rest ++ 10 ∷ []) (one_line s.rest); has_ends = h.ends };
    ended = r.ended ∙ ap (λ (ys : List Item). ys ++ char None 10 ∷ []) (sym r.rest);
  };
  inside = subst (IsInside s) (sym r.own) h.inside;
  of_level = ap level (heading_items s q xs h r.own r.rest) ∙ h.of_level;
}

-- ---- both

pub record BlockRead (k : TextBlock) (q : List ℕ) (xs : List Item) : Type 0 where
  pub is : IsContentOf k q
  pub items : block_items k q ≡ xs
  pub utf8 : IsUtf8 q

pub block_read : (k : TextBlock) (q : List ℕ) (xs : List Item) → AreBlockItems k q xs → IsUtf8 (source_of k q) → ReadAlone (source_of k q) xs → BlockRead k q xs
block_read a_paragraph q xs h u r = record { is = paragraph_lines q xs h r; items = r.unended; utf8 = u }
block_read (a_heading s) q xs h u r =
    let inside = heading_read s q xs h r in
    let parts = heading_utf8 s q h.lead h.trail h.some u in
    record { is = heading_is s q xs h parts.1 inside; items = heading_items s q xs h inside.own inside.rest; utf8 = parts.0 }

-- something in its first line is neither a blank nor a mark, and no mark begins it
pub record BlockSeen (xs : List Item) : Type 0 where
  pub seen : begins_seen xs ≡ true
  pub unled : marks_len xs ≡ 0

signs_seen : (n : ℕ) (bs : List ℕ) (ys : List Item) → 1 ≤ n → BlockSeen (page_chars (equals n ++ bs) ++ ys)
signs_seen zero bs ys le = absurd (omega (arith, le))
signs_seen (suc n) bs ys le = record { seen = refl; unled = refl }

pub block_seen : (k : TextBlock) (q : List ℕ) (xs : List Item) → AreBlockItems k q xs → BlockSeen xs
block_seen a_paragraph q xs h = record { seen = lines_seen xs h.seen; unled = h.unled }
block_seen (a_heading s) q xs h =
    subst BlockSeen (sym h.is) (signs_seen s.level s.lead (h.own ++ (page_chars (s.trail ++ equals s.level) ++ h.rest)) h.some)

first_unled : (x : Item) (n m : ℕ) → cond (is_mark x) (1 + n) 0 ≡ 0 → cond (is_mark x) (1 + m) 0 ≡ 0
first_unled x n m e = by (is_mark x) e
  where
    by : (v : Bool) → cond v (1 + n) 0 ≡ 0 → cond v (1 + m) 0 ≡ 0
    by true f = absurd (omega (arith, f))
    by false f = refl

-- whatever is behind it
pub seen_with : (xs zs : List Item) → BlockSeen xs → BlockSeen (xs ++ zs)
seen_with [] zs h = let no : false ≡ true = h.seen in absurd (cc)
seen_with (x ∷ xs) zs h =
    record { seen = seen_before (x ∷ xs) zs h.seen; unled = first_unled x (marks_len xs) (marks_len (xs ++ zs)) h.unled }

-- so it is read behind anything
pub seen_alone : (a : Bool) (bs : List ℕ) (xs : List Item) → BlockSeen xs → items_from a 0 bs ≡ xs → page_items bs ≡ xs
seen_alone a bs xs h e =
    let seen : BeginsSeen bs = seen_either a bs (ap marks_len e ∙ h.unled) (ap begins_seen e ∙ h.seen) in
    shown_alone a bs xs seen.shown e

-- ---- it calls nothing

pub first_unbraced : (rest : List ℕ) (zs : List Item) → EndsThere rest → page_items rest ≡ zs → BeginsUnbraced (map sign zs)
first_unbraced [] zs e is = subst (λ (ys : List Item). BeginsUnbraced (map sign ys)) (sym (read_items [] [] reads_nothing) ∙ is) tt
first_unbraced (b ∷ rest) zs e is =
    let P : ℕ → Type 0 = λ (c : ℕ). page_items (c ∷ rest) ≡ zs → BeginsUnbraced (map sign zs) in
    subst P (sym e) (λ f. let first = break_first rest zs f in subst (λ (ys : List Item). BeginsUnbraced (map sign ys)) (sym first.is) refl) is

pub calm_between : (xs own zs : List Item) → BeginsUnbraced (map sign zs) → CallsNothing (xs ++ (own ++ zs)) → CallsNothing own
calm_between xs own zs b c =
    let behind : NonePairs (braces_of (own ++ zs)) = pairs_behind (map sign xs) (map sign (own ++ zs)) (subst (λ (ss : List ℕ). NonePairs (braces ss)) (signs_joined xs (own ++ zs)) c) in
    let all : NonePairs (braces_of own ++ braces_of zs) = subst NonePairs (items_before_start own zs b) behind in
    pairs_some (braces_of own) (braces_of own ++ braces_of zs) (front_some (braces_of own) (braces_of zs)) all
  where
    signs_joined : (us vs : List Item) → map sign (us ++ vs) ≡ map sign us ++ map sign vs
    signs_joined [] vs = refl
    signs_joined (x ∷ us) vs = ap (λ (ss : List ℕ). sign x ∷ ss) (signs_joined us vs)

    front_some : (us vs : List Brace) → IsSome us (us ++ vs)
    front_some us vs = subst (λ (ws : List Brace). IsSome ws (us ++ vs)) (append-nil us) (some_both us us [] vs (all_some us) tt)

-- ---- it isn't tangled

or_left_none : (u v : Bool) → (u || v) ≡ false → u ≡ false
or_left_none true v e = e
or_left_none false v e = refl

or_right_none : (u v : Bool) → (u || v) ≡ false → v ≡ false
or_right_none true v e = absurd (cc)
or_right_none false v e = e

shut_of : (items : Expanded) (page : List ℕ) (t : Tree) → is_tangled items page t ≡ false → any_ends_open (nodes_in t) ≡ false
shut_of items page (tree l ts) e =
    let rest = or_right_none (touches_text_call items.text_calls l.ranges) ((ends_open (before page l.ranges) || any_ends_open ts) || has_faulty_group items ts) e in
    let tags = or_left_none (ends_open (before page l.ranges) || any_ends_open ts) (has_faulty_group items ts) rest in
    or_right_none (ends_open (before page l.ranges)) (any_ends_open ts) tags

shut_same : (t u : Tree) → placeless t ≡ placeless u → any_ends_open (nodes_in u) ≡ false → any_ends_open (nodes_in t) ≡ false
shut_same (tree l ts) (tree m us) e h =
    let inside : all_placeless ts ≡ all_placeless us = ap nodes_in e in
    sym (opens_same ts) ∙ ap any_ends_open inside ∙ opens_same us ∙ h

placed_groupless : (ts : Trees) → NoneIsGroup ts → NoneIsGroup (all_placeless ts)
placed_groupless none g = tt
placed_groupless (more (tree l us) ts) g = ((g.0.0, placed_groupless us g.0.1), placed_groupless ts g.1)

groupless_placed : (ts : Trees) → NoneIsGroup (all_placeless ts) → NoneIsGroup ts
groupless_placed none g = tt
groupless_placed (more (tree l us) ts) g = ((g.0.0, groupless_placed us g.0.1), groupless_placed ts g.1)

groupless_same : (t u : Tree) → placeless t ≡ placeless u → HasNoGroup u → NoneIsGroup (nodes_in t)
groupless_same (tree l ts) (tree m us) e g =
    let inside : all_placeless ts ≡ all_placeless us = ap nodes_in e in
    groupless_placed ts (subst NoneIsGroup (sym inside) (placed_groupless us g.1))

-- no group, so none with a fault
faultless : (items : Expanded) (l : Label) (ts : Trees) → NoneIsGroup ts → any_ends_open ts ≡ false → has_faulty_group items ts ≡ false
faultless items l ts g e =
    let all = untangled items [] (record l { ranges = None }) ts g refl e in
    or_right_none (any_ends_open ts) (has_faulty_group items ts) all

none_faulty : (items : Expanded) (t : Tree) → NoneIsGroup (nodes_in t) → any_ends_open (nodes_in t) ≡ false → has_faulty_group items (nodes_in t) ≡ false
none_faulty items (tree l ts) g e = faultless items l ts g e

untangled_anywhere : (k : TextBlock) (q : List ℕ) (items : Expanded) (t : Tree) → IsUntangledAt (block_tree k q) → HasNoGroup (standing 0 [] (block_tree k q))
    → placeless t ≡ placeless (standing 0 [] (block_tree k q)) → (any_ends_open (nodes_in t) ≡ false) × (has_faulty_group items (nodes_in t) ≡ false)
untangled_anywhere k q items t u g e =
    let own : Tree = standing u.number u.before (block_tree k q) in
    let same : placeless t ≡ placeless own = e ∙ moved 0 u.number [] u.before (block_tree k q) in
    let shut = shut_same t own same (shut_of u.items u.page own u.untangled) in
    (shut, none_faulty items t (groupless_same t (standing 0 [] (block_tree k q)) e g) shut)

-- ---- so it is a content

-- where all in it is the page's own, and no node of it is empty
pub content_of : (k : TextBlock) (q : List ℕ) (xs : List Item) → ReadAlone (source_of k q) xs → BlockRead k q xs → CallsNothing xs → NodesHave k q
    → IsUntangledAt (block_tree k q) → IsContent k q
content_of k q xs alone read calm nodes untangled =
    let unended : page_items (source_of k q) ≡ block_items k q = alone.unended ∙ sym read.items in
    let calls : CallsNothing (block_items k q) = subst CallsNothing (sym read.items) calm in
    record {
      utf8 = read.utf8;
      ended = alone.ended ∙ ap (λ (ys : List Item). ys ++ char None 10 ∷ []) (sym read.items);
      unended = unended;
      is = read.is;
      of_page = nodes.of_page;
      has_items = nodes.has_items;
      untangled = λ items t e. untangled_anywhere k q items t untangled (no_group k q 0 [] read.utf8 read.is unended calls) e;
    }

pub block_content : (k : TextBlock) (q : List ℕ) (xs : List Item) → ReadAlone (source_of k q) xs → BlockRead k q xs → CallsNothing xs → IsFreeBlock k q
    → IsContent k q
block_content k q xs alone read calm free = content_of k q xs alone read calm (record { of_page = content_own k q; has_items = free.full }) free.untangled
