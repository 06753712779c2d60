-- Pieces that give an expanded page are what the items of a page owe each other.
use Rattle.std.proofs.Common.{◌≡◌, ℕ, suc, ◌+◌, ◌<◌, ◌≤◌, true, false, Option, Some, None, List, [], ◌∷◌, ◌++◌, length, map, refl, sym, ap, ◌∙◌, subst, arith, append_assoc, length-append}
use Rattle.std.specs.Prelude.{slice_get, if◌then◌else◌, All}
use Rattle.std.specs.Str.{IsUtf8}
use Rattle.std.proofs.lemmas.Bool.Decides.{nat_tests}
use Rattle.std.proofs.lemmas.List.Concat.{flat_map-append}
use Rattle.std.proofs.lemmas.List.Elements.{All-nil, All-cons}
use Rattle.wt_span.specs.declared.form.ItemForm.{ItemForm}
use Rattle.wt_span.specs.declared.form.ItemForm.TheVariants as form
use Rattle.wt_span.specs.declared.form.Piece.{Piece}
use Rattle.wt_span.specs.declared.origin.Origin.{Origin}
use Rattle.wt_span.specs.declared.origin.Origin.TheVariants as origin
use Rattle.wt_span.specs.Slice.{bytes_of, start_of, end_of}
use Rattle.wt_span.specs.Whole.{IsWhole}
use Rattle.wt_span.specs.Items.{Item, char, call_of_origin, items_by, items_of, items}
use Rattle.wt_span.specs.Origins.{OuterCall, Span, span_of_entry, span_of_origin, same_call, origin_before, once, FollowFrom, IsOther, AreApart, IsAmong, IsPlaced, FitsOrigin, IsSoundPiece, IsSoundCall, AreInOrder, Expanded, AreItems}
use Rattle.wt_expand.specs.Made.{IsOfPage}
use Rattle.wt_expand.specs.Work.{Pages}
use Rattle.wt_expand.specs.PageCalls.{Stretch, own, outer, text_call, outer_items, numbered, outer_calls, text_spans, page_stretches, expanded_page}
use Rattle.wt_expand.proofs.MadePieces.{once_page}
use Rattle.wt_expand.proofs.PiecePlaces.{get_mid}
use Rattle.wt_expansion.specs.Made.{AreOwn, AreCalled, Give, GiveKept, kept, AreAlike}
use Rattle.wt_expansion.specs.Sound.{AreSoundItems}
use Rattle.wt_expansion.proofs.SoundCalls.{page_calls_sound}
use Rattle.wt_expansion.proofs.SoundItems.{page_items_sound}
use Rattle.wt_expansion.proofs.TextOrder.{spans_in_order}

abbrev origins : List Piece → List Origin
origins ps = map (λ p. p.origin) ps

-- ---- the items

pub give_items : (at k : ℕ) (ss : List Stretch) (ps : List Piece) (to : ℕ) → Give at k ss ps to → items ps ≡ numbered k ss
give_items at k [] ps to g = ap items g.0
give_items at k (own xs ∷ ss) ps to (qs, rs, mid, is, xs_are, o, g) =
    ap items is ∙ flat_map-append items_of qs rs ∙ ap (λ ys. ys ++ items rs) xs_are ∙ ap (λ ys. xs ++ ys) (give_items mid k ss rs to g)
give_items at k (outer c xs ∷ ss) ps to (qs, rs, is, xs_are, o, s, g) =
    ap items is ∙ flat_map-append items_of qs rs ∙ ap (λ ys. ys ++ items rs) xs_are
    ∙ ap (λ ys. outer_items k c xs ++ ys) (give_items (at + length c.source) (suc k) ss rs to g)
give_items at k (text_call s ∷ ss) ps to g = give_items at k ss ps to g

-- what gives some stretches, and then what gives others
pub give_append : (at k : ℕ) (ss ts : List Stretch) (ps qs : List Piece) (mid to : ℕ) → GiveKept at k ss ps mid
    → GiveKept mid (k + length (outer_calls ss)) ts qs to → GiveKept at k (ss ++ ts) (ps ++ qs) to
give_append at k [] ts ps qs mid to g h =
    let z : k + 0 ≡ k = omega arith in
    subst (λ rs. GiveKept at k ts (rs ++ qs) to) (sym g.0) (subst (λ n. GiveKept n k ts qs to) (sym g.1) (subst (λ n. GiveKept mid n ts qs to) z h))
give_append at k (own xs ∷ ss) ts ps qs mid to (us, rs, m, is, xs_are, o, g) h =
    (us, rs ++ qs, m, ap (λ vs. vs ++ qs) is ∙ append_assoc us rs qs, xs_are, o, give_append m k ss ts rs qs mid to g h)
give_append at k (outer c xs ∷ ss) ts ps qs mid to (us, rs, is, xs_are, o, s, g) h =
    let z : k + suc (length (outer_calls ss)) ≡ suc k + length (outer_calls ss) = omega arith in (
      us,
      rs ++ qs,
      ap (λ vs. vs ++ qs) is ∙ append_assoc us rs qs,
      xs_are,
      o,
      s,
      give_append (at + length c.source) (suc k) ss ts rs qs mid to g (subst (λ n. GiveKept mid n ts qs to) z h),
    )
give_append at k (text_call s ∷ ss) ts ps qs mid to g h = give_append at k ss ts ps qs mid to g h

-- ---- numbers of 32 bits

own_on : (at : ℕ) (ps : List Piece) (to : ℕ) → AreOwn at ps to → at ≤ to
own_on at [] to o = omega (arith, o)
own_on at (p ∷ ps) to o =
    let here = o.0.start in
    let rest = own_on (end_of p.text) ps to o.1 in
    omega (arith, here, rest)

-- a call for each byte at most
calls_few : (at k : ℕ) (ss : List Stretch) (ps : List Piece) (to : ℕ) → GiveKept at k ss ps to → at + length (outer_calls ss) ≤ to
calls_few at k [] ps to g = let e = g.1 in omega (arith, e)
calls_few at k (own xs ∷ ss) ps to (qs, rs, mid, is, xs_are, o, g) =
    let here = own_on at qs mid o in
    let rest = calls_few mid k ss rs to g in
    omega (arith, here, rest)
calls_few at k (outer c xs ∷ ss) ps to (qs, rs, is, xs_are, o, s, g) =
    let some = s.1 in
    let rest = calls_few (at + length c.source) (suc k) ss rs to g in
    omega (arith, some, rest)
calls_few at k (text_call s ∷ ss) ps to g = calls_few at k ss ps to g

give_all : (at k : ℕ) (ss : List Stretch) (ps : List Piece) (to : ℕ) → k + length (outer_calls ss) ≤ 4294967296 → GiveKept at k ss ps to → Give at k ss ps to
give_all at k [] ps to few g = g
give_all at k (own xs ∷ ss) ps to few (qs, rs, mid, is, xs_are, o, g) = (qs, rs, mid, is, xs_are, o, give_all mid k ss rs to few g)
give_all at k (outer c xs ∷ ss) ps to few (qs, rs, is, xs_are, o, s, g) =
    let same : kept k ≡ k = omega (arith, few) in (
      qs,
      rs,
      is,
      xs_are ∙ ap (λ j. outer_items j c xs) same,
      subst (λ j. AreCalled j qs) same o,
      s.0,
      give_all (at + length c.source) (suc k) ss rs to (omega (arith, few)) g,
    )
give_all at k (text_call s ∷ ss) ps to few g = give_all at k ss ps to few g

-- in a page of fewer than 2^32 bytes each call has its number
pub all_numbered : (ss : List Stretch) (ps : List Piece) (to : ℕ) → to < 4294967296 → GiveKept 0 0 ss ps to → Give 0 0 ss ps to
all_numbered ss ps to l g = let few = calls_few 0 0 ss ps to g in give_all 0 0 ss ps to (omega (arith, few, l)) g

-- ---- pieces by themselves

-- some bytes at their place
record IsSet (p : Piece) : Type 0 where
  pub some : 0 < length (items_of p)
  pub placed : IsPlaced p.origin (start_of p.text, end_of p.text)

abbrev AllSet : List Piece → Type 0
AllSet [] = Unit {0}
AllSet (p ∷ ps) = IsSet p × AllSet ps

set_append : (ps qs : List Piece) → AllSet ps → AllSet qs → AllSet (ps ++ qs)
set_append [] qs f g = g
set_append (p ∷ ps) qs f g = (f.0, set_append ps qs f.1 g)

own_placed : (o : Origin) (s t : Span) → IsOfPage s o → s ≡ t → IsPlaced o t
own_placed (origin.Page r) s t h e = h ∙ e
own_placed (origin.Call k) s t h e = absurd h

set_own : (at : ℕ) (ps : List Piece) (to : ℕ) → AreOwn at ps to → AllSet ps
set_own at [] to f = tt
set_own at (p ∷ ps) to f =
    let s = f.0.start in (
      record {
        some = f.0.some;
        placed = own_placed p.origin (at, end_of p.text) (start_of p.text, end_of p.text) f.0.origin
            (ap (λ (n : ℕ). (n, end_of p.text)) (sym s));
      },
      set_own (end_of p.text) ps to f.1,
    )

called_placed : (o : Origin) (k : ℕ) (s : Span) → o ≡ origin.Call k → IsPlaced o s
called_placed (origin.Page r) k s e = absurd cc
called_placed (origin.Call j) k s e = tt

set_called : (k : ℕ) (ps : List Piece) → AreCalled k ps → AllSet ps
set_called k [] f = tt
set_called k (p ∷ ps) f = (
  record { some = f.0; placed = called_placed p.origin k (start_of p.text, end_of p.text) f.1 },
  set_called k ps f.2,
)

set_given : (at k : ℕ) (ss : List Stretch) (ps : List Piece) (to : ℕ) → Give at k ss ps to → AllSet ps
set_given at k [] ps to g = subst AllSet (sym g.0) tt
set_given at k (own xs ∷ ss) ps to (qs, rs, mid, is, xs_are, o, g) =
    subst AllSet (sym is) (set_append qs rs (set_own at qs mid o) (set_given mid k ss rs to g))
set_given at k (outer c xs ∷ ss) ps to (qs, rs, is, xs_are, o, s, g) =
    subst AllSet (sym is) (set_append qs rs (set_called k qs o) (set_given (at + length c.source) (suc k) ss rs to g))
set_given at k (text_call s ∷ ss) ps to g = set_given at k ss ps to g

some_chars : (o : Option ℕ) (bs : List ℕ) → 0 < length (map (char o) bs) → 0 < length bs
some_chars o [] l = l
some_chars o (b ∷ bs) l = omega arith

form_sound : (f : ItemForm) (o : Option ℕ) (bs : List ℕ) → 0 < length (items_by f o bs) → AreSoundItems (items_by f o bs) → IsWhole f bs × FitsOrigin f o bs
form_sound form.Chars o bs l h = (some_chars o bs l, tt)
form_sound (form.Entity c) o bs l h = h.0
form_sound form.Nowiki o bs l h = h.0
form_sound form.Extension o bs l h = h.0
form_sound form.Function o bs l h = h.0
form_sound form.Comment o bs l h = h.0
form_sound form.Include o bs l h = h.0
form_sound form.Hidden o bs l h = h.0
form_sound form.EmptyCall o bs l h = h.0

sound_front : (xs ys : List Item) → AreSoundItems (xs ++ ys) → AreSoundItems xs
sound_front [] ys f = tt
sound_front (x ∷ xs) ys f = (f.0, sound_front xs ys f.1)

sound_back : (xs ys : List Item) → AreSoundItems (xs ++ ys) → AreSoundItems ys
sound_back [] ys f = f
sound_back (x ∷ xs) ys f = sound_back xs ys f.1

sound_pieces : (ps : List Piece) → AllSet ps → AreSoundItems (items ps) → All IsSoundPiece ps
sound_pieces [] f h = All-nil IsSoundPiece
sound_pieces (p ∷ ps) f h =
    let w = form_sound p.form (call_of_origin p.origin) (bytes_of p.text) f.0.some (sound_front (items_of p) (items ps) h) in
    All-cons IsSoundPiece p ps (record { whole = w.0; placed = f.0.placed; fits = w.1 }) (sound_pieces ps f.1 (sound_back (items_of p) (items ps) h))

-- ---- origins

-- of the page, or of a call that isn't before `k`
abbrev IsLater : ℕ → Origin → Type 0
IsLater k (origin.Page r) = Unit {0}
IsLater k (origin.Call j) = k ≤ j

abbrev AllLater : ℕ → List Origin → Type 0
AllLater k [] = Unit {0}
AllLater k (o ∷ os) = IsLater k o × AllLater k os

later_one : (k : ℕ) (o : Origin) → IsLater (suc k) o → IsLater k o
later_one k (origin.Page r) h = tt
later_one k (origin.Call j) h = omega (arith, h)

later_all : (k : ℕ) (os : List Origin) → AllLater (suc k) os → AllLater k os
later_all k [] h = tt
later_all k (o ∷ os) h = (later_one k o h.0, later_all k os h.1)

other_later : (k : ℕ) (o : Origin) → IsLater (suc k) o → same_call (Some k) (call_of_origin o) ≡ false
other_later k (origin.Page r) h = refl
other_later k (origin.Call j) h = grind (arith, nat_tests)

-- what is known of the origins of pieces from a place on
record Stand (cs : List OuterCall) (at k : ℕ) (ps : List Piece) : Type 0 where
  pub follow : FollowFrom at (map (span_of_origin cs) (once (origins ps)))
  pub later : AllLater k (origins ps)
  pub later_once : AllLater k (once (origins ps))
  pub apart : AreApart (once (origins ps))
  pub named : All (IsAmong cs) (origins ps)

own_is_page : (s : Span) (o : Origin) → IsOfPage s o → call_of_origin o ≡ None
own_is_page s (origin.Page r) h = refl
own_is_page s (origin.Call k) h = absurd h

own_span : (cs : List OuterCall) (s : Span) (o : Origin) → IsOfPage s o → span_of_origin cs o ≡ s
own_span cs s (origin.Page r) h = h
own_span cs s (origin.Call k) h = absurd h

own_later : (k : ℕ) (s : Span) (o : Origin) → IsOfPage s o → IsLater k o
own_later k s (origin.Page r) h = tt
own_later k s (origin.Call j) h = absurd h

own_among : (cs : List OuterCall) (s : Span) (o : Origin) → IsOfPage s o → IsAmong cs o
own_among cs s (origin.Page r) h = tt
own_among cs s (origin.Call k) h = absurd h

others : (o : Origin) (os : List Origin) → call_of_origin o ≡ None → All (IsOther o) os
others o [] e = All-nil (IsOther o)
others o (q ∷ os) e = All-cons (IsOther o) q os (ap (λ k. same_call k (call_of_origin q)) e) (others o os e)

stand_own : (cs : List OuterCall) (at k to : ℕ) (qs rs : List Piece) → AreOwn at qs to → Stand cs to k rs → Stand cs at k (qs ++ rs)
stand_own cs at k to [] rs f s = subst (λ n. Stand cs n k rs) (sym f) s
stand_own cs at k to (q ∷ qs) rs f s =
    let rest = stand_own cs (end_of q.text) k to qs rs f.1 s in
    let span : Span = (at, end_of q.text) in
    let own = f.0.origin in
    let page = own_is_page span q.origin own in
    let os = origins (qs ++ rs) in
    let cut : once (q.origin ∷ os) ≡ q.origin ∷ once os = once_page os q.origin page in
    let spans : map (span_of_origin cs) (once (q.origin ∷ os)) ≡ span ∷ map (span_of_origin cs) (once os) =
    ap (map (span_of_origin cs)) cut ∙ ap (λ (x : Span). x ∷ map (span_of_origin cs) (once os)) (own_span cs span q.origin own) in
    let P : List Span → Type 0 = FollowFrom at in
    let Q : List Origin → Type 0 = AllLater k in
    let R : List Origin → Type 0 = AreApart in
    record {
      follow = subst P (sym spans) (refl, rest.follow);
      later = (own_later k span q.origin own, rest.later);
      later_once = subst Q (sym cut) (own_later k span q.origin own, rest.later_once);
      apart = subst R (sym cut) (others q.origin (once os) page, rest.apart);
      named = All-cons (IsAmong cs) q.origin os (own_among cs span q.origin own) rest.named;
    }

-- pieces of one call, and then others
before_other : (k : ℕ) (o : Origin) (os : List Origin) → o ≡ origin.Call k → AllLater (suc k) os → origin_before os o ≡ false
before_other k o [] e h = refl
before_other k o (p ∷ os) e h = ap (λ q. same_call (call_of_origin q) (call_of_origin p)) e ∙ other_later k p h.0

same_self : (k : ℕ) → same_call (Some k) (Some k) ≡ true
same_self k = grind (arith, nat_tests)

once_called : (k : ℕ) (q : Piece) (qs rs : List Piece) → AreCalled k (q ∷ qs) → AllLater (suc k) (origins rs)
    → once (origins (q ∷ qs ++ rs)) ≡ origin.Call k ∷ once (origins rs)
once_called k q [] rs f h =
    ap (λ b. if b then once (origins rs) else q.origin ∷ once (origins rs)) (before_other k q.origin (origins rs) f.1 h)
    ∙ ap (λ o. o ∷ once (origins rs)) f.1
once_called k q (p ∷ qs) rs f h =
    let os = origins (p ∷ qs ++ rs) in
    let same : origin_before os q.origin ≡ true =
    ap (λ o. same_call (call_of_origin o) (call_of_origin p.origin)) f.1 ∙ ap (λ o. same_call (Some k) (call_of_origin o)) f.2.1 ∙ same_self k in
    ap (λ b. if b then once os else q.origin ∷ once os) same ∙ once_called k p qs rs f.2 h

other_all : (k : ℕ) (os : List Origin) → AllLater (suc k) os → All (IsOther (origin.Call k)) os
other_all k [] h = All-nil (IsOther (origin.Call k))
other_all k (o ∷ os) h = All-cons (IsOther (origin.Call k)) o os (other_later k o h.0) (other_all k os h.1)

called_later : (k : ℕ) (qs rs : List Piece) → AreCalled k qs → AllLater k (origins rs) → AllLater k (origins (qs ++ rs))
called_later k [] rs f h = h
called_later k (q ∷ qs) rs f h = (subst (IsLater k) (sym f.1) (omega arith), called_later k qs rs f.2 h)

called_named : (cs : List OuterCall) (k : ℕ) (qs rs : List Piece) → k < length cs → AreCalled k qs → All (IsAmong cs) (origins rs)
    → All (IsAmong cs) (origins (qs ++ rs))
called_named cs k [] rs l f h = h
called_named cs k (q ∷ qs) rs l f h =
    All-cons (IsAmong cs) q.origin (origins (qs ++ rs)) (subst (IsAmong cs) (sym f.1) l) (called_named cs k qs rs l f.2 h)

stand_called : (cs : List OuterCall) (c : OuterCall) (at k : ℕ) (q : Piece) (qs rs : List Piece) → slice_get cs k ≡ Some c → c.start ≡ at → k < length cs
    → AreCalled k (q ∷ qs) → Stand cs (at + length c.source) (suc k) rs → Stand cs at k (q ∷ qs ++ rs)
stand_called cs c at k q qs rs there start l f s =
    let cut = once_called k q qs rs f s.later in
    let spans : map (span_of_origin cs) (once (origins (q ∷ qs ++ rs))) ≡ (at, at + length c.source) ∷ map (span_of_origin cs) (once (origins rs)) =
    ap (map (span_of_origin cs)) cut
    ∙ ap (λ e. span_of_entry e ∷ map (span_of_origin cs) (once (origins rs))) there
    ∙ ap (λ (n : ℕ). (n, n + length c.source) ∷ map (span_of_origin cs) (once (origins rs))) start in
    let P : List Span → Type 0 = FollowFrom at in
    let Q : List Origin → Type 0 = AllLater k in
    let R : List Origin → Type 0 = AreApart in
    record {
      follow = subst P (sym spans) (refl, s.follow);
      later = called_later k (q ∷ qs) rs f (later_all k (origins rs) s.later);
      later_once = subst Q (sym cut) (omega arith, later_all k (once (origins rs)) s.later_once);
      apart = subst R (sym cut) (other_all k (once (origins rs)) s.later_once, s.apart);
      named = called_named cs k (q ∷ qs) rs l f s.named;
    }

-- an outermost call has some item
outer_some : (k : ℕ) (c : OuterCall) (xs : List Item) → outer_items k c xs ≡ [] → ⊥
outer_some k c [] e = cc
outer_some k c (x ∷ xs) e = cc

stand_outer : (cs : List OuterCall) (c : OuterCall) (xs : List Item) (at k : ℕ) (qs rs : List Piece) → slice_get cs k ≡ Some c → c.start ≡ at → k < length cs
    → items qs ≡ outer_items k c xs → AreCalled k qs → Stand cs (at + length c.source) (suc k) rs → Stand cs at k (qs ++ rs)
stand_outer cs c xs at k [] rs there start l e f s = absurd (outer_some k c xs (sym e))
stand_outer cs c xs at k (q ∷ qs) rs there start l e f s = stand_called cs c at k q qs rs there start l f s

stand : (ss : List Stretch) (ps : List Piece) (before : List OuterCall) (at k to : ℕ) → k ≡ length before → Give at k ss ps to
    → Stand (before ++ outer_calls ss) at k ps
stand [] ps before at k to e g = subst (Stand (before ++ []) at k) (sym g.0)
    (record { follow = tt; later = tt; later_once = tt; apart = tt; named = All-nil (IsAmong (before ++ [])) })
stand (own xs ∷ ss) ps before at k to e (qs, rs, mid, is, xs_are, o, g) =
    let cs = before ++ outer_calls ss in
    subst (Stand cs at k) (sym is) (stand_own cs at k mid qs rs o (stand ss rs before mid k to e g))
stand (outer c xs ∷ ss) ps before at k to e (qs, rs, is, xs_are, o, start, g) =
    let cs = before ++ c ∷ outer_calls ss in
    let there : slice_get cs k ≡ Some c = ap (slice_get cs) e ∙ get_mid before c (outer_calls ss) in
    let same : (before ++ c ∷ []) ++ outer_calls ss ≡ cs = append_assoc before (c ∷ []) (outer_calls ss) in
    let next : suc k ≡ length (before ++ c ∷ []) = let y = length-append before (c ∷ []) in omega (arith, e, y) in
    let l : k < length cs = let y = length-append before (c ∷ outer_calls ss) in omega (arith, e, y) in
    let rest = subst (λ ds. Stand ds (at + length c.source) (suc k) rs) same (stand ss rs (before ++ c ∷ []) (at + length c.source) (suc k) to next g) in
    subst (Stand cs at k) (sym is) (stand_outer cs c xs at k qs rs there start l xs_are o rest)
stand (text_call s ∷ ss) ps before at k to e g = stand ss ps before at k to e g

-- ---- the page

pub page_pieces : (pages : Pages) (page : List ℕ) (ss : List Stretch) (ps : List Piece) (to : ℕ) → IsUtf8 page → AreAlike ss (page_stretches pages page)
    → Give 0 0 ss ps to
    → AreItems ps (outer_calls ss) (text_spans ss)
page_pieces pages page ss ps to u a g =
    let s = stand ss ps [] 0 0 to refl g in
    let same = give_items 0 0 ss ps to g ∙ a.items 0 in
    record {
      sound_pieces = sound_pieces ps (set_given 0 0 ss ps to g) (subst AreSoundItems (sym same) (page_items_sound pages page));
      sound_calls = subst (All IsSoundCall) (sym a.calls) (page_calls_sound pages page u);
      named = s.named;
      follow = s.follow;
      apart = s.apart;
      in_order = subst AreInOrder (sym a.text_calls) (spans_in_order pages page);
    }

expanded_is : (pages : Pages) (page : List ℕ) → expanded_page pages page
    ≡ record {
      items = numbered 0 (page_stretches pages page);
      outer = outer_calls (page_stretches pages page);
      text_calls = text_spans
          (page_stretches pages page);
    }
unfolding expanded_page
expanded_is pages page = refl

pub page_is_items : (pages : Pages) (page : List ℕ) (ss : List Stretch) (ps : List Piece) (to : ℕ) → AreAlike ss (page_stretches pages page)
    → Give 0 0 ss ps to
    → record { items = items ps; outer = outer_calls ss; text_calls = text_spans ss } ≡ expanded_page pages page
page_is_items pages page ss ps to a g =
    let same = give_items 0 0 ss ps to g ∙ a.items 0 in
    ap (λ xs. let r : Expanded = record { items = xs; outer = outer_calls ss; text_calls = text_spans ss } in r) same
    ∙ ap (λ cs. let r : Expanded = record { items = numbered 0 (page_stretches pages page); outer = cs; text_calls = text_spans ss } in r) a.calls
    ∙ ap (λ ts. let r : Expanded = record {
      items = numbered 0 (page_stretches pages page);
      outer = outer_calls
          (page_stretches pages page);
      text_calls = ts;
    } in r) a.text_calls
    ∙ sym (expanded_is pages page)
