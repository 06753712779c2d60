-- Behind each `&` in the source of a node that is no bare URL comes a byte with which no reference goes on.
use Rattle.std.proofs.Common.{◌≡◌, ◌≢◌, ◌⊎◌, inl, inr, arith, ℕ, Bool, true, false, List, [], ◌∷◌, ◌++◌, drop, map, refl, sym, ap, ap₂, subst}
use Rattle.std.specs.Prelude.{◌||◌, ◌&&◌, ◌==◌, codes}
use Rattle.std.specs.List.{list_any, list_all}
use Rattle.std.proofs.lemmas.Bool.{eqb-true}
use Rattle.std.proofs.lemmas.Bool.Decides.{nat_tests}
use Rattle.std.proofs.lemmas.List.Elements.{All-contains}
use Rattle.wt_span.specs.Items.{Item, char, whole, sources}
use Rattle.wt_span.specs.declared.form.ItemForm.{ItemForm}
use Rattle.wt_span.specs.declared.form.ItemForm.TheVariants as form
use Rattle.wt_lex.proofs.Begins.{and_left, and_right}
use Rattle.wt_guards.specs.declared.role.Role.{Role}
use Rattle.wt_guards.specs.declared.role.Role.TheVariants.{Link, External, Bare, Switch, Toggle, Mark, Group, Function, Node}
use Rattle.wt_tiles.specs.declared.glyph.Glyph.{Glyph}
use Rattle.wt_tiles.specs.declared.glyph.Glyph.TheVariants as glyph
use Rattle.wt_tiles.specs.Glyphs.{glyph_of, glyph_of_form, is_small, byte_glyphs}
use Rattle.wt_tiles.specs.Tiles.{switch_names}
use Rattle.wt_text_edit_laws.specs.ReadContents.{BeginsUnjoined}
use Rattle.wt_text_edit_laws.specs.TextBetween.{EndsBy}
use Rattle.wt_beside_laws.specs.Commented.{LexemesEnd}
use Rattle.wt_beside_laws.specs.Nodes.{IsSwitchNode, IsDelimiter, IsTagNode, IsCategoryNode, IsMediaNode, IsOneLexeme, IsNode}
use Rattle.wt_beside_laws.specs.References.{is_reference_byte, ReferencesEnd}
use Rattle.wt_beside_laws.specs.Unjoined.{IsUnjoined}
use Rattle.wt_beside_laws.proofs.Made.NodesSealed.{IsTailed, split_at, link_tailed, category_tailed, media_tailed, external_tailed, tag_tailed, lexeme_stops}
use Rattle.wt_beside_laws.proofs.Made.Sealed.{stops, last_ends}
use Rattle.wt_beside_laws.proofs.NodesStand.{EachIs, all_by}

-- ---- behind each `&`

-- a byte that ends a name
abbrev ReferencesStop : List ℕ → Type 0
ReferencesStop [] = Unit {0}
ReferencesStop (b ∷ bs) = ((b == 38) ≡ true → list_any stops bs ≡ true) × ReferencesStop bs

stop_is_none : (b : ℕ) → stops b ≡ true → is_reference_byte b ≡ false
stop_is_none b e = grind (arith, nat_tests, e)

none_all : (bs : List ℕ) → list_any stops bs ≡ true → list_all is_reference_byte bs ≡ false
none_all [] e = absurd (cc)
none_all (b ∷ bs) e = by (stops b) refl e (λ f. none_all bs f)
  where
    and_none : (t v : Bool) → v ≡ false → (t && v) ≡ false
    and_none true v f = f
    and_none false v f = refl

    by : (t : Bool) → stops b ≡ t → (t || list_any stops bs) ≡ true → (list_any stops bs ≡ true → list_all is_reference_byte bs ≡ false)
        → (is_reference_byte b && list_all is_reference_byte bs) ≡ false
    by true i f go = ap (λ (t : Bool). t && list_all is_reference_byte bs) (stop_is_none b i)
    by false i f go = and_none (is_reference_byte b) (list_all is_reference_byte bs) (go f)

stop_ends : (bs : List ℕ) → ReferencesStop bs → ReferencesEnd bs
stop_ends [] h = tt
stop_ends (b ∷ bs) h = (λ e. inl (none_all bs (h.0 e)), stop_ends bs h.1)

any_left : (p : ℕ → Bool) (xs ys : List ℕ) → list_any p xs ≡ true → list_any p (xs ++ ys) ≡ true
any_left p [] ys e = absurd (cc)
any_left p (x ∷ xs) ys e = by (p x) e (λ f. any_left p xs ys f)
  where
    by : (t : Bool) → (t || list_any p xs) ≡ true → (list_any p xs ≡ true → list_any p (xs ++ ys) ≡ true) → (t || list_any p (xs ++ ys)) ≡ true
    by true f go = refl
    by false f go = go f

both_stop : (xs ys : List ℕ) → ReferencesStop xs → ReferencesStop ys → ReferencesStop (xs ++ ys)
both_stop [] ys h k = k
both_stop (x ∷ xs) ys h k = (λ e. any_left stops xs ys (h.0 e), both_stop xs ys h.1 k)

any_last : (b : ℕ) (bs : List ℕ) → EndsBy stops (b ∷ bs) → list_any stops (b ∷ bs) ≡ true
any_last b [] e = ap (λ (t : Bool). t || false) e
any_last b (c ∷ cs) e = by (stops b) (any_last c cs e)
  where
    by : (t : Bool) → list_any stops (c ∷ cs) ≡ true → (t || list_any stops (c ∷ cs)) ≡ true
    by true f = refl
    by false f = f

ends_stop : (bs : List ℕ) → EndsBy stops bs → ReferencesStop bs
ends_stop [] e = tt
ends_stop (b ∷ []) e = (λ i. absurd (let no : stops 38 ≡ true = subst (λ (k : ℕ). stops k ≡ true) (eqb-true b 38 i) e in cc), tt)
ends_stop (b ∷ c ∷ cs) e = (λ i. any_last c cs e, ends_stop (c ∷ cs) e)

-- ---- a node of one lexeme

one_item : (xs : List Item) (g : Glyph) → LexemesEnd xs → map glyph_of xs ≡ g ∷ [] → ((b : ℕ) → g ≢ glyph.Byte b) → ReferencesStop (sources xs)
one_item [] g l e n = absurd (cc)
one_item (char o b ∷ xs) g l e n = absurd (n b (sym (ap first_of e)))
  where
    first_of : List Glyph → Glyph
    first_of [] = glyph.Atom
    first_of (h ∷ hs) = h
one_item (whole f o bs ∷ []) g l e n = both_stop bs [] (ends_stop bs (lexeme_stops bs l.0)) tt
one_item (whole f o bs ∷ y ∷ ys) g l e n = absurd (cc)

lexeme_references : (xs : List Item) → LexemesEnd xs → IsOneLexeme (map glyph_of xs) → ReferencesStop (sources xs)
lexeme_references xs l n = elim n [
  | inl i ↦ one_item xs glyph.Atom l i (λ b e. cc)
  | inr i ↦ one_item xs (glyph.Entity i.0) l i.1 (λ b e. cc)
]

mark_references : (xs : List Item) → LexemesEnd xs → map glyph_of xs ≡ glyph.Mark ∷ [] → ReferencesStop (sources xs)
mark_references xs l i = one_item xs glyph.Mark l i (λ b e. cc)

-- ---- links and tags

small_stop : (bs : List ℕ) → list_all is_small bs ≡ true → ReferencesStop bs
small_stop [] e = tt
small_stop (b ∷ bs) e =
    let own = and_left (is_small b) (list_all is_small bs) e in (
      λ i. absurd (let no : is_small 38 ≡ true = subst (λ (k : ℕ). is_small k ≡ true) (eqb-true b 38 i) own in cc),
      small_stop bs (and_right (is_small b) (list_all is_small bs) e),
    )

tailed_references : (c : ℕ) (xs : List Item) → stops c ≡ true → IsTailed c (map glyph_of xs) → ReferencesStop (sources xs)
tailed_references c xs e t =
    let s = split_at c t.at xs t.stop t.trail in
    subst ReferencesStop (sym s.is)
    (both_stop (s.before ++ c ∷ []) s.behind (ends_stop (s.before ++ c ∷ []) (last_ends c s.before e)) (small_stop s.behind s.small))

-- ---- switches and delimiters

abbrev byte_of : List Glyph → ℕ
byte_of [] = 0
byte_of (glyph.Byte b ∷ gs) = b
byte_of (glyph.Entity c ∷ gs) = 0
byte_of (glyph.Atom ∷ gs) = 0
byte_of (glyph.Mark ∷ gs) = 0

no_byte : (f : ItemForm) (gs : List Glyph) (b : ℕ) (hs : List Glyph) → glyph_of_form f ∷ gs ≡ glyph.Byte b ∷ hs → ⊥
no_byte form.Chars gs b hs e = cc
no_byte (form.Entity c) gs b hs e = cc
no_byte form.Nowiki gs b hs e = cc
no_byte form.Extension gs b hs e = cc
no_byte form.Function gs b hs e = cc
no_byte form.Comment gs b hs e = cc
no_byte form.Include gs b hs e = cc
no_byte form.Hidden gs b hs e = cc
no_byte form.EmptyCall gs b hs e = cc

bytes_are : (xs : List Item) (bs : List ℕ) → map glyph_of xs ≡ byte_glyphs bs → sources xs ≡ bs
bytes_are [] [] e = refl
bytes_are [] (b ∷ bs) e = absurd (cc)
bytes_are (x ∷ xs) [] e = absurd (cc)
bytes_are (char o c ∷ xs) (b ∷ bs) e = ap₂ (λ (k : ℕ) (ks : List ℕ). k ∷ ks) (ap byte_of e) (bytes_are xs bs (ap (drop 1) e))
bytes_are (whole f o cs ∷ xs) (b ∷ bs) e = absurd (no_byte f (map glyph_of xs) b (byte_glyphs bs) e)

bytes_references : (xs : List Item) (bs : List ℕ) → map glyph_of xs ≡ byte_glyphs bs → EndsBy stops bs → ReferencesStop (sources xs)
bytes_references xs bs e h = subst ReferencesStop (sym (bytes_are xs bs e)) (ends_stop bs h)

abbrev EndsSwitch : List ℕ → Type 0
EndsSwitch word = EndsBy stops (95 ∷ 95 ∷ word)

each_switch : EachIs EndsSwitch switch_names
unfolding switch_names
each_switch = (refl, (refl, (refl, (refl, (refl, (refl, (refl, (refl, (refl, tt)))))))))

switch_references : (xs : List Item) → IsSwitchNode (map glyph_of xs) → ReferencesStop (sources xs)
switch_references xs n =
    bytes_references xs (95 ∷ 95 ∷ n.word) n.is (All-contains EndsSwitch switch_names n.word (all_by EndsSwitch switch_names each_switch) n.named)

delimiter_references : (xs : List Item) → IsDelimiter (map glyph_of xs) → ReferencesStop (sources xs)
delimiter_references xs n = elim n [
  | inl i ↦ bytes_references xs (codes "''") i refl
  | inr i ↦ bytes_references xs (codes "'''") i refl
]

-- ---- any node

other_references : (xs : List Item) → LexemesEnd xs → (let own = map glyph_of xs in IsOneLexeme own ⊎ (IsTagNode own ⊎ (IsCategoryNode own ⊎ IsMediaNode own)))
    → ReferencesStop (sources xs)
other_references xs l n = elim n [
  | inl one ↦ lexeme_references xs l one
  | inr other ↦ elim other [
    | inl tag ↦ tailed_references 62 xs refl (tag_tailed (map glyph_of xs) tag)
    | inr link ↦ elim link [
      | inl category ↦ tailed_references 93 xs refl (category_tailed (map glyph_of xs) category)
      | inr media ↦ tailed_references 93 xs refl (media_tailed (map glyph_of xs) media)
    ]
  ]
]

-- two texts that begin with no byte of a reference, one behind the other
both_unjoined : (more rest : List ℕ) → BeginsUnjoined more → BeginsUnjoined rest → BeginsUnjoined (more ++ rest)
both_unjoined [] rest h k = k
both_unjoined (b ∷ more) rest h k = h

-- of a bare URL what is written behind it says so
pub node_references : (r : Role) (xs : List Item) (more rest : List ℕ) → LexemesEnd xs → IsNode r (map glyph_of xs) → IsUnjoined r more → BeginsUnjoined rest
    → ReferencesEnd (sources xs) ⊎ BeginsUnjoined (more ++ rest)
node_references Link xs more rest l n u k = inl (stop_ends (sources xs) (tailed_references 93 xs refl (link_tailed (map glyph_of xs) n)))
node_references External xs more rest l n u k = inl (stop_ends (sources xs) (tailed_references 93 xs refl (external_tailed (map glyph_of xs) n)))
node_references (Bare ends) xs more rest l n u k = inr (both_unjoined more rest u k)
node_references Switch xs more rest l n u k = inl (stop_ends (sources xs) (switch_references xs n))
node_references Toggle xs more rest l n u k = inl (stop_ends (sources xs) (delimiter_references xs n))
node_references (Mark ends began) xs more rest l n u k = inl (stop_ends (sources xs) (mark_references xs l n))
node_references (Group g) xs more rest l n u k = absurd n
node_references Function xs more rest l n u k = inl (stop_ends (sources xs) (lexeme_references xs l n))
node_references Node xs more rest l n u k = inl (stop_ends (sources xs) (other_references xs l n))
