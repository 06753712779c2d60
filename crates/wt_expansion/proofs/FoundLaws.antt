-- What is appended to what was found.
use Rattle.std.proofs.Common.{◌≡◌, ℕ, zero, suc, ◌+◌, ◌-◌, ◌<◌, ◌≤◌, min, Option, Some, None, List, [], ◌∷◌, ◌++◌, length, map, take, drop, get_or, refl, sym, ap, ◌∙◌, subst, arith, append_assoc, append-nil, length-append}
use Rattle.std.proofs.lemmas.List.{length-drop, length-map, length-take-le, map-append, take-map, take_all, take_at, take_more}
use Rattle.std.specs.Prelude.{slice_range}
use Rattle.std.proofs.lemmas.List.Concat.{flat_map-append}
use Rattle.wt_span.specs.declared.form.ItemForm.{ItemForm}
use Rattle.wt_span.specs.declared.form.ItemForm.TheVariants as form
use Rattle.wt_span.specs.declared.form.Piece.{Piece}
use Rattle.wt_span.specs.declared.form.Outer.{Outer}
use Rattle.wt_span.specs.declared.origin.Origin.TheVariants as origin
use Rattle.wt_span.specs.declared.range.Range.{Range}
use Rattle.wt_span.specs.Slice.{bytes_of, start_of}
use Rattle.wt_span.specs.Items.{Item, char, whole, items_by, items_of, items, call_of_origin}
use Rattle.wt_span.specs.Origins.{OuterCall, outer_call, span_of}
use Rattle.wt_expand.specs.PageCalls.{Stretch, own, outer, from_call, outer_items, outer_calls, text_spans}
use Rattle.wt_span.specs.declared.text.Text.{Text}
use Rattle.wt_braces.specs.Views.{part_of}
use Rattle.wt_transclusion.specs.declared.read.Braces.{Braces}
use Rattle.wt_expansion.specs.Calls.{outer_of}
use Rattle.wt_expansion.specs.declared.found.Collected.{Collected}
use Rattle.wt_expansion.specs.Made.{AreCalled, GiveKept, kept, Appends, items_of_call, AppendsCall}
use Rattle.wt_expansion.specs.Walks.{Adds}
use Rattle.wt_expansion.proofs.PieceLaws.{give_append}
use Rattle.wt_expansion.proofs.SoundCalls.{calls_append}
use Rattle.wt_expansion.proofs.TextOrder.{spans_append}

-- ---- a piece by its origin

from_chars : (k : ℕ) (o : Option ℕ) (bs : List ℕ) → map (char (Some k)) bs ≡ map (from_call k) (map (char o) bs)
from_chars k o [] = refl
from_chars k o (b ∷ bs) = ap (λ xs. char (Some k) b ∷ xs) (from_chars k o bs)

from_form : (f : ItemForm) (k : ℕ) (o : Option ℕ) (bs : List ℕ) → items_by f (Some k) bs ≡ map (from_call k) (items_by f o bs)
from_form form.Chars k o bs = from_chars k o bs
from_form (form.Entity c) k o bs = refl
from_form form.Nowiki k o bs = refl
from_form form.Extension k o bs = refl
from_form form.Function k o bs = refl
from_form form.Comment k o bs = refl
from_form form.Include k o bs = refl
from_form form.Hidden k o bs = refl
from_form form.EmptyCall k o bs = refl

map_some : (k : ℕ) (xs : List Item) → 0 < length xs → 0 < length (map (from_call k) xs)
map_some k [] l = l
map_some k (x ∷ xs) l = omega arith

called_append : (k : ℕ) (ps qs : List Piece) → AreCalled k ps → AreCalled k qs → AreCalled k (ps ++ qs)
called_append k [] qs f g = g
called_append k (p ∷ ps) qs f g = (f.0, f.1, called_append k ps qs f.2 g)

pub appends_none : (k : ℕ) (ps : List Piece) → Appends k [] ps ps
appends_none k ps = ([], sym (append-nil ps), tt, refl)

one_items : (p : Piece) → items (p ∷ []) ≡ items_of p
one_items p = append-nil (items_of p)

pub appends_skip : (k : ℕ) (old new : List Piece) (p : Piece) → items_of p ≡ [] → new ≡ old → Appends k (p ∷ []) old new
appends_skip k old new p none same =
    ([], same ∙ sym (append-nil old), tt, ap (map (from_call k)) (sym (one_items p ∙ none)))

pub appends_one : (k : ℕ) (old new : List Piece) (p q : Piece) → 0 < length (items_of p) → q.text ≡ p.text → q.form ≡ p.form → q.origin ≡ origin.Call k
    → new ≡ old ++ q ∷ [] → Appends k (p ∷ []) old new
appends_one k old new p q some text_is form_is origin_is pushed =
    let one : items_of q ≡ map (from_call k) (items_of p) =
    ap (λ o. items_by q.form (call_of_origin o) (bytes_of q.text)) origin_is ∙ ap (λ g. items_by g (Some k) (bytes_of q.text)) form_is
    ∙ ap (λ x. items_by p.form (Some k) (bytes_of x)) text_is ∙ from_form p.form k (call_of_origin p.origin) (bytes_of p.text) in
    let wide : 0 < length (items_of q) = subst (λ xs. 0 < length xs) (sym one) (map_some k (items_of p) some) in
    (q ∷ [], pushed, (wide, origin_is, tt), one_items q ∙ one ∙ ap (map (from_call k)) (sym (one_items p)))

pub appends_then : (k i : ℕ) (given old mid new : List Piece) (p : Piece) → i < length given → p ≡ get_or given i p
    → Appends k (take i given) old mid → Appends k (p ∷ []) mid new → Appends k (take (i + 1) given) old new
appends_then k i given old mid new p l e (qs, is, f, same) (rs, next, g, one) = (
  qs ++ rs,
  next ∙ ap (λ ps. ps ++ rs) is ∙ append_assoc old qs rs,
  called_append k qs rs f g,
  flat_map-append items_of qs rs ∙ ap (λ xs. xs ++ items rs) same ∙ ap (λ xs. map (from_call k) (items (take i given)) ++ xs) one
      ∙ sym (map-append (from_call k) (items (take i given)) (items (p ∷ [])))
      ∙ ap (map (from_call k)) (sym (flat_map-append items_of (take i given) (p ∷ [])))
      ∙ ap (λ ps. map (from_call k) (items ps)) (sym (take_more given i p l ∙ ap (λ q. take i given ++ q ∷ []) (sym e))),
)

pub appends_all : (k i : ℕ) (given old new : List Piece) → length given ≤ i → Appends k (take i given) old new → Appends k given old new
appends_all k i given old new l a = subst (λ ps. Appends k ps old new) (take_all i given l) a

-- ---- a whole call

no_items : (k : ℕ) (xs : List Item) → map (from_call k) xs ≡ [] → xs ≡ []
no_items k [] e = refl
no_items k (x ∷ xs) e = absurd cc

some_call : (k : ℕ) (source : List ℕ) (xs : List Item) (p : Piece) (qs : List Piece) → items (p ∷ qs) ≡ map (from_call k) xs → 0 < length (items_of p)
    → items (p ∷ qs) ≡ items_of_call k source xs
some_call k source [] p qs e l = absurd (let z = length-append (items_of p) (items qs) in let y = ap length e in omega (arith, z, y, l))
some_call k source (x ∷ xs) p qs e l = e

pub call_some : (k : ℕ) (source : List ℕ) (given old new : List Piece) → (length new ≡ length old → ⊥) → Appends k given old new
    → AppendsCall k source (items given) old new
call_some k source given old new other ([], is, f, same) = absurd (other (ap length is ∙ ap length (append-nil old)))
call_some k source given old new other (q ∷ qs, is, f, same) = (q ∷ qs, is, f, some_call k source (items given) q qs same f.0)

nothing : (k : ℕ) (qs : List Piece) (xs : List Item) → length qs ≡ 0 → items qs ≡ map (from_call k) xs → xs ≡ []
nothing k [] xs l e = no_items k xs (sym e)
nothing k (q ∷ qs) xs l e = absurd (omega (arith, l))

empty_items : (k : ℕ) (source : List ℕ) (xs : List Item) → xs ≡ [] → items_of_call k source xs ≡ whole form.EmptyCall (Some k) source ∷ []
empty_items k source xs e = ap (items_of_call k source) e

pub call_empty : (k : ℕ) (source : List ℕ) (given old mid new : List Piece) (q : Piece) → length mid ≡ length old → Appends k given old mid
    → bytes_of q.text ≡ source → q.form ≡ form.EmptyCall → q.origin ≡ origin.Call k → new ≡ mid ++ q ∷ [] → AppendsCall k source (items given) old new
call_empty k source given old mid new q same (qs, is, f, items_are) bytes_is form_is origin_is pushed =
    let z : length qs ≡ 0 = let y = ap length is in let x = length-append old qs in omega (arith, y, x, same) in
    let none = nothing k qs (items given) z items_are in
    let one : items_of q ≡ whole form.EmptyCall (Some k) source ∷ [] =
    ap (λ o. items_by q.form (call_of_origin o) (bytes_of q.text)) origin_is ∙ ap (λ g. items_by g (Some k) (bytes_of q.text)) form_is
    ∙ ap (items_by form.EmptyCall (Some k)) bytes_is in
    let wide : 0 < length (items_of q) = subst (λ xs. 0 < length xs) (sym one) (omega arith) in
    let flat : mid ≡ old = is ∙ ap (λ ps. old ++ ps) (none_left qs z) ∙ append-nil old in
    (q ∷ [], pushed ∙ ap (λ ps. ps ++ q ∷ []) flat, (wide, origin_is, tt), one_items q ∙ one ∙ sym (empty_items k source (items given) none))
  where
    none_left : (ps : List Piece) → length ps ≡ 0 → ps ≡ []
    none_left [] l = refl
    none_left (p ∷ ps) l = absurd (omega (arith, l))

outer_by : (k : ℕ) (c : OuterCall) (xs : List Item) → items_of_call k c.source xs ≡ outer_items k c xs
outer_by k c [] = refl
outer_by k c (x ∷ xs) = refl

-- ---- what is found

-- a call with what it gives
pub outer_adds : (old new : Collected) (o : Outer) (c : OuterCall) (given : List Item) (to : ℕ)
    → AppendsCall (kept (length old.outer.items)) c.source given old.pieces.items new.pieces.items → new.outer.items ≡ old.outer.items ++ o ∷ []
    → new.text_calls ≡ old.text_calls → outer_call o ≡ c → to ≡ c.start + length c.source → 0 < length c.source
    → Adds old new c.start (outer c given ∷ []) to
outer_adds old new o c given to (qs, is, f, items_are) outers texts same to_is some =
    record {
      pieces = qs;
      pieces_are = is;
      give = (qs, [], sym (append-nil qs), items_are ∙ outer_by (kept (length old.outer.items)) c given, f, (refl, some), (refl, sym to_is));
      outer_are = ap (map outer_call) outers ∙ map-append outer_call old.outer.items (o ∷ []) ∙ ap (λ d. map outer_call old.outer.items ++ d ∷ []) same;
      texts_are = ap (λ v. map span_of v.items) texts ∙ sym (append-nil (map span_of old.text_calls.items));
    }

-- ---- one after another

map_len : (old new : Collected) (at : ℕ) (ss : List Stretch) (to : ℕ) → Adds old new at ss to
    → length new.outer.items ≡ length old.outer.items + length (outer_calls ss)
map_len old new at ss to a =
    sym (length-map new.outer.items outer_call) ∙ ap length a.outer_are
    ∙ length-append (map outer_call old.outer.items) (outer_calls ss) ∙ ap (λ n. n + length (outer_calls ss)) (length-map old.outer.items outer_call)

pub adds_then : (a b c : Collected) (at : ℕ) (ss ts : List Stretch) (mid to : ℕ) → Adds a b at ss mid → Adds b c mid ts to → Adds a c at (ss ++ ts) to
adds_then a b c at ss ts mid to f g =
    record {
      pieces = f.pieces ++ g.pieces;
      pieces_are = g.pieces_are ∙ ap (λ ps. ps ++ g.pieces) f.pieces_are ∙ append_assoc a.pieces.items f.pieces g.pieces;
      give = give_append at (length a.outer.items) ss ts f.pieces g.pieces mid to f.give
          (subst (λ n. GiveKept mid n ts g.pieces to) (map_len a b at ss mid f) g.give);
      outer_are = g.outer_are ∙ ap (λ cs. cs ++ outer_calls ts) f.outer_are ∙ append_assoc (map outer_call a.outer.items) (outer_calls ss) (outer_calls ts)
          ∙ ap (λ cs. map outer_call a.outer.items ++ cs) (sym (calls_append ss ts));
      texts_are = g.texts_are ∙ ap (λ us. us ++ text_spans ts) f.texts_are ∙ append_assoc (map span_of a.text_calls.items) (text_spans ss) (text_spans ts)
          ∙ ap (λ us. map span_of a.text_calls.items ++ us) (sym (spans_append ss ts));
    }

pub adds_none : (a : Collected) (at : ℕ) → Adds a a at [] at
adds_none a at = record {
  pieces = [];
  pieces_are = sym (append-nil a.pieces.items);
  give = (refl, refl);
  outer_are = sym (append-nil (map outer_call a.outer.items));
  texts_are = sym (append-nil (map span_of a.text_calls.items));
}

-- what was found is taken back, and then other stretches are found
pub adds_back : (a b c : Collected) (at : ℕ) (ss : List Stretch) (to : ℕ) → b.pieces.items ≡ a.pieces.items
    → map outer_call b.outer.items ≡ map outer_call a.outer.items → map span_of b.text_calls.items ≡ map span_of a.text_calls.items
    → Adds b c at ss to → Adds a c at ss to
adds_back a b c at ss to p o t f =
    let n : length b.outer.items ≡ length a.outer.items = sym (length-map b.outer.items outer_call) ∙ ap length o ∙ length-map a.outer.items outer_call in
    record {
      pieces = f.pieces;
      pieces_are = f.pieces_are ∙ ap (λ ps. ps ++ f.pieces) p;
      give = subst (λ k. GiveKept at k ss f.pieces to) n f.give;
      outer_are = f.outer_are ∙ ap (λ cs. cs ++ outer_calls ss) o;
      texts_are = f.texts_are ∙ ap (λ us. us ++ text_spans ss) t;
    }

pub taken_back : {A B : Type 0} → (f : A → B) (xs ys : List A) (zs : List B) → map f ys ≡ map f xs ++ zs → map f (take (length xs) ys) ≡ map f xs
taken_back f xs ys zs e =
    sym (take-map f (length xs) ys) ∙ ap (take (length xs)) e ∙ take_at (map f xs) zs (length xs) (length-map xs f)

-- an outermost call by what is read of it
pub outer_same : (source : Text) (b : Braces) (href : Option (List ℕ)) (rs : List Range) (es : List (Option ℕ))
    → map span_of rs ≡ map (λ p. (p.from, p.to)) (map part_of b.parts.now) → es ≡ map (λ p. p.equals_at) (map part_of b.parts.now)
    → outer_call (record { source = source; argument = b.argument; parts = rs; equals = es; href = href }) ≡ outer_of source b href
outer_same source b href rs es e f =
    ap (λ xs. let c : OuterCall = record { start = start_of source; source = bytes_of source; argument = b.argument; parts = xs; equals = es; href = href }
    in c) e
    ∙ ap (λ xs. let c : OuterCall = record {
      start = start_of source;
      source = bytes_of source;
      argument = b.argument;
      parts = map (λ p. (p.from, p.to))
          (map part_of b.parts.now);
      equals = xs;
      href = href;
    } in c) f

-- ---- pieces from a number on

drop_none : {A : Type 0} → (n : ℕ) → drop {A = A} n [] ≡ []
drop_none zero = refl
drop_none (suc n) = refl

pub drop_most : {A : Type 0} → (i j : ℕ) (xs : List A) → j ≡ min i (length xs) → drop j xs ≡ drop i xs
drop_most zero j xs e = let z : j ≡ 0 = omega (arith, e) in ap (λ n. drop n xs) z
drop_most (suc i) j [] e = drop_none j ∙ sym (drop_none (suc i))
drop_most (suc i) zero (x ∷ xs) e = absurd (omega (arith, e))
drop_most (suc i) (suc j) (x ∷ xs) e = drop_most i j xs (omega (arith, e))

-- ---- what was found since a time is taken back

pub adds_marked : (old mid back new : Collected) (p o t : ℕ) (at : ℕ) (ss : List Stretch) (to : ℕ) (from : ℕ) (ts : List Stretch) (end : ℕ)
    → p ≡ length old.pieces.items → o ≡ length old.outer.items → t ≡ length old.text_calls.items → Adds old mid at ss to
    → back.pieces.items ≡ take p mid.pieces.items → back.outer.items ≡ take o mid.outer.items → back.text_calls.items ≡ take t mid.text_calls.items
    → Adds back new from ts end → Adds old new from ts end
adds_marked old mid back new p o t at ss to from ts end pn on tn f pb ob tb g =
    adds_back old back new from ts end
    (pb ∙ ap (λ n. take n mid.pieces.items) pn ∙ ap (take (length old.pieces.items)) f.pieces_are
    ∙ take_at old.pieces.items f.pieces (length old.pieces.items) refl)
    (ap (map outer_call) (ob ∙ ap (λ n. take n mid.outer.items) on) ∙ taken_back outer_call old.outer.items mid.outer.items (outer_calls ss) f.outer_are)
    (ap (map span_of) (tb ∙ ap (λ n. take n mid.text_calls.items) tn)
    ∙ taken_back span_of old.text_calls.items mid.text_calls.items (text_spans ss) f.texts_are)
    g

-- ---- bytes of the page

some_items : (f : ItemForm) (bs : List ℕ) → 0 < length bs → 0 < length (items_by f None bs)
some_items form.Chars bs l = omega (arith, l, length-map bs (char None))
some_items (form.Entity c) bs l = omega arith
some_items form.Nowiki bs l = omega arith
some_items form.Extension bs l = omega arith
some_items form.Function bs l = omega arith
some_items form.Comment bs l = omega arith
some_items form.Include bs l = omega arith
some_items form.Hidden bs l = omega arith
some_items form.EmptyCall bs l = omega arith

pub some_bytes : (t : List ℕ) (from to : ℕ) → from < to → to ≤ length t → 0 < length (slice_range t from to)
some_bytes t from to low within =
    let d = length-drop from t in
    let e = length-take-le (to - from) (drop from t) (omega (arith, d, within)) in
    omega (arith, e, low)

-- what is found of bytes, by what they and their places are
pub adds_there : (old new : Collected) (f : ItemForm) (from to at end : ℕ) (bs cs : List ℕ) → at ≡ from → end ≡ to → bs ≡ cs → 0 < length cs
    → (0 < length (items_by f None bs) → Adds old new at (own (items_by f None bs) ∷ []) end) → Adds old new from (own (items_by f None cs) ∷ []) to
adds_there old new f from to at end bs cs start stop same some adds =
    subst (λ k. Adds old new k (own (items_by f None cs) ∷ []) to) start (subst (λ k. Adds old new at (own (items_by f None cs) ∷ []) k) stop
    (subst (λ (xs : List ℕ). Adds old new at (own (items_by f None xs) ∷ []) end) same
    (adds (subst (λ (xs : List ℕ). 0 < length (items_by f None xs)) (sym same) (some_items f cs some)))))
