-- A block among the items of an expanded page: the page's items, where calls are characters, are cut at it, and so are the page's bytes.
use Rattle.std.proofs.Common.{arith, ◌≡◌, ◌⊎◌, inl, inr, ℕ, zero, suc, true, ◌+◌, ◌≤◌, Option, None, List, [], ◌∷◌, ◌++◌, length, refl, sym, ap, ap₂, ◌∙◌, subst, append_assoc}
use Rattle.std.proofs.lemmas.Grind.{flat_map-append}
use Rattle.wt_span.specs.Items.{Item, source, sources, call_of}
use Rattle.wt_span.specs.Origins.{OuterCall, Span}
use Rattle.wt_annotated.specs.Seams.{last_of, first_of, text_from}
use Rattle.wt_annotated.proofs.Seams.{text_append_from}
use Rattle.wt_expand.specs.PageCalls.{expanded_page}
use Rattle.wt_expand.specs.PageItems.{page_items}
use Rattle.wt_expand.specs.Work.{Pages}
use Rattle.wt_expand.proofs.PiecePlaces.{behind_page}
use Rattle.wt_tables.specs.Parts.{joined}
use Rattle.wt_text_edit_laws.specs.PageCuts.{AreBlockItems}
use Rattle.wt_text_edit_laws.specs.ParagraphParts.{break}
use Rattle.wt_text_edit_laws.specs.ReadContents.{begins_shown, BeginsParagraph, IsReadContent}
use Rattle.wt_text_edit_laws.specs.TextBlocks.{TextBlock, a_paragraph, a_heading, source_of, IsFrame}
use Rattle.wt_text_edit_laws.specs.TypedHeadings.{equals, closing}
use Rattle.wt_text_edit_laws.proofs.Cuts.ItemCuts.{HaveBytes}
use Rattle.wt_text_edit_laws.proofs.Cuts.TextLines.{IsEnding}
use Rattle.wt_beside_laws.proofs.Derived.BlockContents.{block_seen}
use Rattle.wt_beside_laws.proofs.Derived.BodyRead.{parts_are}
use Rattle.wt_beside_laws.proofs.Marks.Shown.{nothing_read}
use Rattle.wt_called_edit_laws.specs.LinedAmong.{AreOfPage, AreBeside}
use Rattle.wt_called_edit_laws.proofs.Among.OwnItems.{from_page, Skipped, skip, TakenOwn, take_own, rest_clear}
use Rattle.wt_called_edit_laws.proofs.Among.OwnSeams.{own_last, IsOwnSeam, Rest}
use Rattle.wt_called_edit_laws.proofs.Among.PartsApart.{IsClear, members_of}
use Rattle.wt_called_edit_laws.proofs.Cells.PlacedBlocks.{own_alone}
use Rattle.wt_called_edit_laws.proofs.Cells.SignLeads.{StaysOn, stays_on, have_front, have_behind}
use Rattle.wt_called_edit_laws.proofs.PartTexts.{own_text}

-- ---- bytes that are cut

abbrev first_byte : ℕ → List ℕ → ℕ
first_byte b [] = b
first_byte b (c ∷ cs) = c

abbrev other_bytes : List ℕ → List ℕ
other_bytes [] = []
other_bytes (c ∷ cs) = cs

pub bytes_cut : (gs bs cs ds : List ℕ) → gs ++ bs ≡ cs ++ ds → length gs ≡ length cs → (gs ≡ cs) × (bs ≡ ds)
bytes_cut [] bs [] ds e n = (refl, e)
bytes_cut [] bs (c ∷ cs) ds e n = absurd (omega (arith, n))
bytes_cut (g ∷ gs) bs [] ds e n = absurd (omega (arith, n))
bytes_cut (g ∷ gs) bs (c ∷ cs) ds e n =
    let r = bytes_cut gs bs cs ds (ap other_bytes e) (omega (arith, n)) in
    (ap₂ (λ (x : ℕ) (xs : List ℕ). x ∷ xs) (ap (first_byte g) e) r.0, r.1)

-- a block has a byte
pub read_some : (k : TextBlock) (q : List ℕ) → IsReadContent k q → 1 ≤ length (source_of k q)
read_some a_paragraph [] h =
    let b : BeginsParagraph [] = h.begins in
    let shown : begins_shown [] ≡ true = sym (ap begins_shown nothing_read) ∙ b.shown in cc
read_some a_paragraph (b ∷ q) h = omega arith
read_some (a_heading s) q h = let f : IsFrame s = h.begins in by s.level f.sides.some
  where
    by : (n : ℕ) → 1 ≤ n → 1 ≤ length ((equals n ++ s.lead) ++ (q ++ closing s))
    by zero le = absurd (omega (arith, le))
    by (suc n) le = omega arith

pub own_seam : (xs ys : List Item) → last_of None xs ≡ None → IsOwnSeam xs ys
own_seam [] ys e = tt
own_seam (x ∷ xs) ys e = inl e

pub beside_first : (from to : ℕ) (spans : List Span) → from ≤ to → AreBeside from to spans → AreBeside from from spans
beside_first from to [] le h = tt
beside_first from to (s ∷ spans) le h = (by h.0, beside_first from to spans le h.1)
  where
    by : (s.1 ≤ from) ⊎ (to ≤ s.0) → (s.1 ≤ from) ⊎ (from ≤ s.0)
    by (inl l) = inl l
    by (inr r) = inr (omega (arith, r, le))

pub beside_front : (from mid to : ℕ) (spans : List Span) → mid ≤ to → AreBeside from to spans → AreBeside from mid spans
beside_front from mid to [] le h = tt
beside_front from mid to (s ∷ spans) le h = (by h.0, beside_front from mid to spans le h.1)
  where
    by : (s.1 ≤ from) ⊎ (to ≤ s.0) → (s.1 ≤ from) ⊎ (mid ≤ s.0)
    by (inl l) = inl l
    by (inr r) = inr (omega (arith, r, le))

-- ---- from a place of the page on

abbrev pub calls_of : Pages → List ℕ → List OuterCall
calls_of pages page = (expanded_page pages page).outer

-- the items of the expanded page from there on, and those of the page, with calls gs characters
pub record IsRest (pages : Pages) (page : List ℕ) (p : ℕ) (ys qs : List Item) : Type 0 where
  pub rest : Rest pages (calls_of pages page) (expanded_page pages page).text_calls 0 (members_of page) p ys qs
  pub same : text_from (calls_of pages page) None ys ≡ sources qs
  pub front : List Item
  pub whole : page_items page ≡ front ++ qs
  pub some : HaveBytes qs

-- where these end
abbrev pub text_to : Pages → List ℕ → ℕ → List Item → ℕ
text_to pages page p xs = p + length (text_from (calls_of pages page) None xs)

-- ---- past items before a cut

pub record IsPast (pages : Pages) (page : List ℕ) (p : ℕ) (xs ys qs : List Item) : Type 0 where
  pub before : List Item
  pub behind : List Item
  pub is : qs ≡ before ++ behind
  pub source : sources before ≡ text_from (calls_of pages page) None xs
  pub clear : IsClear (text_to pages page p xs) 0 (members_of page)
  pub next : IsRest pages page (text_to pages page p xs) ys behind

pub past_front : (pages : Pages) (page : List ℕ) (p : ℕ) (xs ys qs : List Item) → IsRest pages page p (xs ++ ys) qs → last_of None xs ≡ None
    → AreBeside (text_to pages page p xs) (text_to pages page p xs) (expanded_page pages page).text_calls → IsPast pages page p xs ys qs
past_front pages page p xs ys qs r ends beside =
    let calls : List OuterCall = calls_of pages page in
    let spans : List Span = (expanded_page pages page).text_calls in
    let k : Skipped pages calls spans 0 (members_of page) p xs ys qs =
    skip pages calls spans 0 (members_of page) p xs ys qs r.rest (own_seam xs ys ends) beside in
    let text_is : text_from calls None (xs ++ ys) ≡ text_from calls None xs ++ text_from calls None ys =
    text_append_from calls None xs ys ∙ ap (λ (o : Option ℕ). text_from calls None xs ++ text_from calls o ys) ends in
    let source_is : sources qs ≡ sources k.front ++ sources k.behind = ap sources k.chars ∙ flat_map-append source k.front k.behind in
    let cut = bytes_cut (text_from calls None xs) (text_from calls None ys) (sources k.front) (sources k.behind) (sym text_is ∙ r.same ∙ source_is) (sym k.size) in
    record {
      before = k.front;
      behind = k.behind;
      is = k.chars;
      source = sym cut.0;
      clear = rest_clear pages calls spans 0 (members_of page) (text_to pages page p xs) ys k.behind k.rest;
      next = record {
        rest = k.rest;
        same = cut.1;
        front = r.front ++ k.front;
        whole = r.whole ∙ ap (λ zs. r.front ++ zs) k.chars ∙ sym (append_assoc r.front k.front k.behind);
        some = have_behind k.front k.behind (subst HaveBytes k.chars r.some);
      };
    }

-- ---- items before those of the page's own

-- there is none, or the first is one of these
abbrev pub BeginsOwn : List Item → Type 0
BeginsOwn ys = (ys ≡ []) ⊎ ((z : Item) × (zs : List Item) × (ys ≡ z ∷ zs) × (call_of z ≡ None))

pub rest_own : (es : List Item) (tail : List (List Item)) → IsEnding es → ((m : List Item) (ms : List (List Item)) → tail ≡ m ∷ ms → es ≡ break ∷ [])
    → BeginsOwn (es ++ joined tail)
rest_own [] [] i f = inl refl
rest_own [] (m ∷ ms) i f = let none : [] ≡ break ∷ [] = f m ms refl in cc
rest_own (x ∷ es) tail i f = inr (x, es ++ joined tail, refl, ap call_of i.0)

pub own_same : (calls : List OuterCall) (o : Option ℕ) (ys : List Item) → BeginsOwn ys → text_from calls o ys ≡ text_from calls None ys
own_same calls o ys (inl e) = ap (text_from calls o) e ∙ sym (ap (text_from calls None) e)
own_same calls o ys (inr (z, zs, e, own)) =
    let first : text_from calls o (z ∷ zs) ≡ source z ++ text_from calls (call_of z) zs =
    ap (λ (bs : List ℕ). bs ++ text_from calls (call_of z) zs) (behind_page calls o z own) in
    let again : text_from calls None (z ∷ zs) ≡ source z ++ text_from calls (call_of z) zs =
    ap (λ (bs : List ℕ). bs ++ text_from calls (call_of z) zs) (behind_page calls None z own) in
    ap (text_from calls o) e ∙ first ∙ sym again ∙ sym (ap (text_from calls None) e)

first_none : (ys : List Item) → BeginsOwn ys → first_of ys None ≡ None
first_none ys (inl e) = ap (λ (zs : List Item). first_of zs None) e
first_none ys (inr (z, zs, e, own)) = ap (λ (us : List Item). first_of us None) e ∙ own

seam_before : (xs ys : List Item) → BeginsOwn ys → IsOwnSeam xs ys
seam_before [] ys h = tt
seam_before (x ∷ xs) ys h = inr (first_none ys h)

-- past items that may come from calls
pub past_before : (pages : Pages) (page : List ℕ) (p : ℕ) (xs ys qs : List Item) → IsRest pages page p (xs ++ ys) qs → BeginsOwn ys
    → AreBeside (text_to pages page p xs) (text_to pages page p xs) (expanded_page pages page).text_calls → IsPast pages page p xs ys qs
past_before pages page p xs ys qs r own beside =
    let calls : List OuterCall = calls_of pages page in
    let spans : List Span = (expanded_page pages page).text_calls in
    let k : Skipped pages calls spans 0 (members_of page) p xs ys qs =
    skip pages calls spans 0 (members_of page) p xs ys qs r.rest (seam_before xs ys own) beside in
    let text_is : text_from calls None (xs ++ ys) ≡ text_from calls None xs ++ text_from calls None ys =
    text_append_from calls None xs ys ∙ ap (λ (bs : List ℕ). text_from calls None xs ++ bs) (own_same calls (last_of None xs) ys own) in
    let source_is : sources qs ≡ sources k.front ++ sources k.behind = ap sources k.chars ∙ flat_map-append source k.front k.behind in
    let cut = bytes_cut (text_from calls None xs) (text_from calls None ys) (sources k.front) (sources k.behind) (sym text_is ∙ r.same ∙ source_is) (sym k.size) in
    record {
      before = k.front;
      behind = k.behind;
      is = k.chars;
      source = sym cut.0;
      clear = rest_clear pages calls spans 0 (members_of page) (text_to pages page p xs) ys k.behind k.rest;
      next = record {
        rest = k.rest;
        same = cut.1;
        front = r.front ++ k.front;
        whole = r.whole ∙ ap (λ zs. r.front ++ zs) k.chars ∙ sym (append_assoc r.front k.front k.behind);
        some = have_behind k.front k.behind (subst HaveBytes k.chars r.some);
      };
    }

-- past items of the page's own
pub record IsPastOwn (pages : Pages) (page : List ℕ) (p : ℕ) (os ys qs : List Item) : Type 0 where
  pub behind : List Item
  pub is : qs ≡ os ++ behind
  pub clear : IsClear (p + length (sources os)) 0 (members_of page)
  pub next : IsRest pages page (p + length (sources os)) ys behind

pub past_own : (pages : Pages) (page : List ℕ) (p : ℕ) (os ys qs : List Item) → IsRest pages page p (os ++ ys) qs → AreOfPage os
    → AreBeside p (p + length (sources os)) (expanded_page pages page).text_calls → IsPastOwn pages page p os ys qs
past_own pages page p os ys qs r own beside =
    let calls : List OuterCall = calls_of pages page in
    let spans : List Span = (expanded_page pages page).text_calls in
    let k : TakenOwn pages calls spans 0 (members_of page) p os ys qs = take_own pages calls spans 0 (members_of page) p os ys qs r.rest own beside in
    let text_is : text_from calls None (os ++ ys) ≡ sources os ++ text_from calls None ys =
    text_append_from calls None os ys
    ∙ ap₂ (λ (bs : List ℕ) (o : Option ℕ). bs ++ text_from calls o ys) (own_text calls None os (from_page os own)) (own_last os (from_page os own)) in
    let source_is : sources qs ≡ sources os ++ sources k.behind = ap sources k.chars ∙ flat_map-append source os k.behind in
    let cut = bytes_cut (sources os) (text_from calls None ys) (sources os) (sources k.behind) (sym text_is ∙ r.same ∙ source_is) refl in
    record {
      behind = k.behind;
      is = k.chars;
      clear = rest_clear pages calls spans 0 (members_of page) (p + length (sources os)) ys k.behind k.rest;
      next = record {
        rest = k.rest;
        same = cut.1;
        front = r.front ++ os;
        whole = r.whole ∙ ap (λ zs. r.front ++ zs) k.chars ∙ sym (append_assoc r.front os k.behind);
        some = have_behind os k.behind (subst HaveBytes k.chars r.some);
      };
    }

-- ---- a block

-- where what is before the block ends, with the marks that begin it, and where the block ends
abbrev pub block_from : Pages → List ℕ → ℕ → List Item → List Item → ℕ
block_from pages page p xs ms = text_to pages page p (xs ++ ms)

abbrev pub block_to : Pages → List ℕ → ℕ → List Item → List Item → TextBlock → List ℕ → ℕ
block_to pages page p xs ms k q = block_from pages page p xs ms + length (source_of k q)

-- a block of the page's own behind these items
pub record IsBlockHere (pages : Pages) (page : List ℕ) (p : ℕ) (xs os : List Item) (k : TextBlock) (q : List ℕ) (ys qs : List Item) : Type 0 where
  pub before : List Item
  pub behind : List Item
  pub is : qs ≡ before ++ (os ++ behind)
  pub source : sources before ≡ text_from (calls_of pages page) None xs
  pub some : HaveBytes os
  pub alone : page_items (source_of k q) ≡ os
  pub stays : (sign : List Item) (n : ℕ) → StaysOn sign k n os → StaysOn sign k n (page_items q)
  pub first : IsClear (text_to pages page p xs) 0 (members_of page)
  pub last : IsClear (text_to pages page p xs + length (source_of k q)) 0 (members_of page)
  pub next : IsRest pages page (text_to pages page p xs + length (source_of k q)) ys behind

pub beside_last : (from mid to : ℕ) (spans : List Span) → from ≤ mid → AreBeside from to spans → AreBeside mid to spans
beside_last from mid to [] le h = tt
beside_last from mid to (s ∷ spans) le h = (by h.0, beside_last from mid to spans le h.1)
  where
    by : (s.1 ≤ from) ⊎ (to ≤ s.0) → (s.1 ≤ mid) ⊎ (to ≤ s.0)
    by (inl l) = inl (omega (arith, l, le))
    by (inr r) = inr r

-- what is on the page for items and marks of the page's own behind them
pub marked_text : (calls : List OuterCall) (xs ms : List Item) → last_of None xs ≡ None → AreOfPage ms
    → text_from calls None (xs ++ ms) ≡ text_from calls None xs ++ sources ms
marked_text calls xs ms ends marks =
    text_append_from calls None xs ms ∙ ap (λ (o : Option ℕ). text_from calls None xs ++ text_from calls o ms) ends
    ∙ ap (λ (bs : List ℕ). text_from calls None xs ++ bs) (own_text calls None ms (from_page ms marks))

pub block_here : (pages : Pages) (page : List ℕ) (p : ℕ) (xs os : List Item) (k : TextBlock) (q : List ℕ) (ys qs : List Item) → IsRest pages page p (xs ++ (os ++ ys)) qs
    → BeginsOwn (os ++ ys) → AreOfPage os → AreBlockItems k q os → sources os ≡ source_of k q
    → AreBeside (text_to pages page p xs) (text_to pages page p xs + length (source_of k q)) (expanded_page pages page).text_calls
    → IsBlockHere pages page p xs os k q ys qs
block_here pages page p xs os k q ys qs r begins own block is_source beside =
    let spans : List Span = (expanded_page pages page).text_calls in
    let from : ℕ = text_to pages page p xs in
    let to : ℕ = from + length (source_of k q) in
    let all_size : from + length (sources os) ≡ to = ap (λ (bs : List ℕ). from + length bs) is_source in
    let first = past_before pages page p xs (os ++ ys) qs r begins (beside_first from to spans (omega arith) beside) in
    let second = past_own pages page from os ys first.behind first.next own (subst (λ (n : ℕ). AreBeside from n spans) (sym all_size) beside) in
    let front : List Item = first.next.front in
    let whole : page_items page ≡ front ++ (os ++ second.behind) = first.next.whole ∙ ap (λ zs. front ++ zs) second.is in
    let again : page_items (sources front ++ (sources os ++ sources second.behind)) ≡ front ++ (os ++ second.behind) =
    ap page_items (parts_are page front os second.behind whole) ∙ whole in
    record {
      before = first.before;
      behind = second.behind;
      is = first.is ∙ ap (λ zs. first.before ++ zs) second.is;
      source = first.source;
      some = have_front os second.behind (subst HaveBytes second.is first.next.some);
      alone = ap page_items (sym is_source) ∙ own_alone front os second.behind again (block_seen k q os block);
      stays = λ sign n h. stays_on sign k n q front os second.behind block again h;
      first = first.clear;
      last = subst (λ (n : ℕ). IsClear n 0 (members_of page)) all_size second.clear;
      next = subst (λ (n : ℕ). IsRest pages page n ys second.behind) all_size second.next;
    }
