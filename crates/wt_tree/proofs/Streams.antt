-- The plain view read from left to right determines it.
use Rattle.std.proofs.Common.{◌≡◌, ℕ, suc, ◌+◌, ◌≤◌, ◌<◌, Bool, true, false, List, [], ◌∷◌, ◌++◌, length, map, refl, sym, ap, ◌∙◌, subst, arith, append_assoc, append-nil}
use Rattle.std.proofs.lemmas.List.{map-append}
use Rattle.wt_tree.specs.declared.kind.Showing.{Showing}
use Rattle.wt_tree.specs.declared.kind.Showing.TheVariants.{Characters, Inside, Nothing, Element}
use Rattle.wt_tree.specs.Kinds.{showing}
use Rattle.wt_tree.specs.Tree.{Label, Tree, tree, Trees, none, more}
use Rattle.wt_tree.specs.Plain.{Face, face, Plain, text, element, Plains, ended, along, text_before, shown_before, plain, plain_before, plains_before}
use Rattle.wt_tree.specs.Stream.{Bracket, opens, closes, StreamToken, byte, bracket, signs_by, signs, signs_of_all, bytes_in, brackets_in}

-- characters and brackets of joined streams
pub bytes_join : (s t : List StreamToken) → bytes_in (s ++ t) ≡ bytes_in s ++ bytes_in t
bytes_join [] t = refl
bytes_join (byte b ∷ s) t = ap (λ xs. b ∷ xs) (bytes_join s t)
bytes_join (bracket k ∷ s) t = bytes_join s t

pub brackets_join : (n : ℕ) (s t : List StreamToken) → brackets_in n (s ++ t) ≡ brackets_in n s ++ brackets_in (n + length (bytes_in s)) t
brackets_join n [] t = let e : n + 0 ≡ n = omega arith in ap (λ m. brackets_in m t) (sym e)
brackets_join n (byte b ∷ s) t =
    let e : (n + 1) + length (bytes_in s) ≡ n + suc (length (bytes_in s)) = omega arith in
    brackets_join (n + 1) s t ∙ ap (λ m. brackets_in (n + 1) s ++ brackets_in m t) e
brackets_join n (bracket k ∷ s) t = ap (λ xs. (n, k) ∷ xs) (brackets_join n s t)

pub bytes_of_text : (bs : List ℕ) → bytes_in (map byte bs) ≡ bs
bytes_of_text [] = refl
bytes_of_text (b ∷ bs) = ap (λ xs. b ∷ xs) (bytes_of_text bs)

pub brackets_of_text : (n : ℕ) (bs : List ℕ) → brackets_in n (map byte bs) ≡ []
brackets_of_text n [] = refl
brackets_of_text n (b ∷ bs) = brackets_of_text (n + 1) bs

-- a stream is determined by its characters and its brackets
abbrev HeadFrom : ℕ → List (ℕ × Bracket) → Type 0
HeadFrom n [] = Unit {0}
HeadFrom n (p ∷ ps) = n ≤ p.0

places_from : (n m : ℕ) (s : List StreamToken) → n ≤ m → HeadFrom n (brackets_in m s)
places_from n m [] h = tt
places_from n m (byte b ∷ s) h = places_from n (m + 1) s (omega arith)
places_from n m (bracket k ∷ s) h = h

-- brackets that come after a character don't stand at its place
apart : (n : ℕ) (s t : List StreamToken) (k : Bracket) → brackets_in (n + 1) s ≡ (n, k) ∷ brackets_in n t → ⊥
apart n s t k e =
    let P : List (ℕ × Bracket) → Type 0 = HeadFrom (n + 1) in
    let h : n + 1 ≤ n = subst P e (places_from (n + 1) (n + 1) s (omega arith)) in
    omega (arith, h)

head_byte : (b c : ℕ) (xs ys : List ℕ) → b ∷ xs ≡ c ∷ ys → (b ≡ c) × (xs ≡ ys)
head_byte b c xs ys e = (cc, cc)

head_bracket : (p q : ℕ × Bracket) (xs ys : List (ℕ × Bracket)) → p ∷ xs ≡ q ∷ ys → (p ≡ q) × (xs ≡ ys)
head_bracket p q xs ys e = (cc, cc)

pub one_stream : (n : ℕ) (s t : List StreamToken) → bytes_in s ≡ bytes_in t → brackets_in n s ≡ brackets_in n t → s ≡ t
one_stream n [] [] e f = refl
one_stream n [] (byte b ∷ t) e f = cc
one_stream n [] (bracket k ∷ t) e f = cc
one_stream n (byte b ∷ s) [] e f = cc
one_stream n (bracket k ∷ s) [] e f = cc
one_stream n (byte b ∷ s) (byte c ∷ t) e f =
    let h = head_byte b c (bytes_in s) (bytes_in t) e in
    let r : s ≡ t = one_stream (n + 1) s t h.1 f in
    cc (h.0, r)
one_stream n (byte b ∷ s) (bracket k ∷ t) e f = absurd (apart n s t k f)
one_stream n (bracket k ∷ s) (byte b ∷ t) e f = absurd (apart n t s k (sym f))
one_stream n (bracket j ∷ s) (bracket k ∷ t) e f =
    let h = head_bracket (n, j) (n, k) (brackets_in n s) (brackets_in n t) f in
    let r : s ≡ t = one_stream n s t e h.1 in
    let j-is : j ≡ k = ap (λ (p : ℕ × Bracket). p.1) h.0 in
    cc (j-is, r)

-- the signs of a plain view
abbrev mutual
  pub plain_signs : Plains → List StreamToken
  plain_signs ended = []
  plain_signs (along p ps) = signs_of_plain p ++ plain_signs ps

  pub signs_of_plain : Plain → List StreamToken
  signs_of_plain (text bs) = map byte bs
  signs_of_plain (element f qs) = bracket (opens f) ∷ (plain_signs qs ++ (bracket closes ∷ []))

text_signs : (bs : List ℕ) (ps : Plains) → plain_signs (text_before bs ps) ≡ map byte bs ++ plain_signs ps
text_signs [] ps = refl
text_signs (b ∷ bs) ended = refl
text_signs (b ∷ bs) (along (text cs) ps) =
    ap (λ (ss : List StreamToken). byte b ∷ (ss ++ plain_signs ps)) (map-append byte bs cs)
    ∙ ap (λ (ss : List StreamToken). byte b ∷ ss) (append_assoc (map byte bs) (map byte cs) (plain_signs ps))
text_signs (b ∷ bs) (along (element f qs) ps) = refl

signs_before_by : (s : Showing) (l : Label) (held : Plains → Plains) (inner : List StreamToken) (rest : Plains)
    → ((ps : Plains) → plain_signs (held ps) ≡ inner ++ plain_signs ps)
    → plain_signs (shown_before s l held rest) ≡ signs_by s l inner ++ plain_signs rest
signs_before_by Characters l held inner rest h = text_signs l.shown rest
signs_before_by Inside l held inner rest h = h rest
signs_before_by Nothing l held inner rest h = refl
signs_before_by Element l held inner rest h =
    let e : plain_signs (held ended) ≡ inner = h ended ∙ append-nil inner in
    ap (λ (is : List StreamToken). (bracket (opens (face l)) ∷ (is ++ (bracket closes ∷ []))) ++ plain_signs rest) e

mutual
  pub signs_before : (t : Tree) (rest : Plains) → plain_signs (plain_before t rest) ≡ signs t ++ plain_signs rest
  signs_before (tree l ts) rest = signs_before_by (showing l.kind) l (λ ps. plains_before ts ps) (signs_of_all ts) rest (λ ps. all_signs_before ts ps)

  pub all_signs_before : (ts : Trees) (rest : Plains) → plain_signs (plains_before ts rest) ≡ signs_of_all ts ++ plain_signs rest
  all_signs_before none rest = refl
  all_signs_before (more t ts) rest =
      signs_before t (plains_before ts rest) ∙ ap (λ r. signs t ++ r) (all_signs_before ts rest)
      ∙ sym (append_assoc (signs t) (signs_of_all ts) (plain_signs rest))

-- no text is empty, and none stands beside another
abbrev begins_text : Plains → Bool
begins_text ended = false
begins_text (along (text bs) ps) = true
begins_text (along (element f qs) ps) = false

abbrev mutual
  Normal : Plains → Type 0
  Normal ended = Unit {0}
  Normal (along p ps) = NormalPlain p ps × Normal ps

  NormalPlain : Plain → Plains → Type 0
  NormalPlain (text bs) ps = (0 < length bs) × (begins_text ps ≡ false)
  NormalPlain (element f qs) ps = Normal qs

normal_text : (bs : List ℕ) (ps : Plains) → Normal ps → Normal (text_before bs ps)
normal_text [] ps h = h
normal_text (b ∷ bs) ended h = ((omega arith, refl), tt)
normal_text (b ∷ bs) (along (text cs) ps) h = ((omega arith, h.0.1), h.1)
normal_text (b ∷ bs) (along (element f qs) ps) h = ((omega arith, refl), h)

normal_by : (s : Showing) (l : Label) (held : Plains → Plains) (rest : Plains) → ((ps : Plains) → Normal ps → Normal (held ps))
    → Normal rest → Normal (shown_before s l held rest)
normal_by Characters l held rest h n = normal_text l.shown rest n
normal_by Inside l held rest h n = h rest n
normal_by Nothing l held rest h n = n
normal_by Element l held rest h n = (h ended tt, n)

mutual
  normal_before : (t : Tree) (rest : Plains) → Normal rest → Normal (plain_before t rest)
  normal_before (tree l ts) rest n = normal_by (showing l.kind) l (λ ps. plains_before ts ps) rest (λ ps m. all_normal_before ts ps m) n

  all_normal_before : (ts : Trees) (rest : Plains) → Normal rest → Normal (plains_before ts rest)
  all_normal_before none rest n = n
  all_normal_before (more t ts) rest n = normal_before t (plains_before ts rest) (all_normal_before ts rest n)

-- a stream that goes on after a plain view: not by a character, and not by an opening
abbrev Stops : List StreamToken → Type 0
Stops [] = Unit {0}
Stops (byte b ∷ s) = ⊥
Stops (bracket (opens f) ∷ s) = ⊥
Stops (bracket closes ∷ s) = Unit {0}

abbrev NoByte : List StreamToken → Type 0
NoByte [] = Unit {0}
NoByte (byte b ∷ s) = ⊥
NoByte (bracket k ∷ s) = Unit {0}

no_byte : (ps : Plains) (s : List StreamToken) → begins_text ps ≡ false → Stops s → NoByte (plain_signs ps ++ s)
no_byte ended [] b h = tt
no_byte ended (byte c ∷ s) b h = absurd h
no_byte ended (bracket k ∷ s) b h = tt
no_byte (along (text bs) ps) s b h = absurd (let e : true ≡ false = b in cc)
no_byte (along (element f qs) ps) s b h = tt

one_text : (bs cs : List ℕ) (s t : List StreamToken) → NoByte s → NoByte t → map byte bs ++ s ≡ map byte cs ++ t → (bs ≡ cs) × (s ≡ t)
one_text [] [] s t m n e = (refl, e)
one_text [] (c ∷ cs) s t m n e = absurd (let P : List StreamToken → Type 0 = NoByte in subst P e m)
one_text (b ∷ bs) [] s t m n e = absurd (let P : List StreamToken → Type 0 = NoByte in subst P (sym e) n)
one_text (b ∷ bs) (c ∷ cs) s t m n e =
    let x : b ≡ c = cc in
    let y : map byte bs ++ s ≡ map byte cs ++ t = cc in
    let r = one_text bs cs s t m n y in
    (cc (x, r.0), r.1)

regroup : (f g : Face) (rs ws ps qs s t : List StreamToken) → ((bracket (opens f) ∷ (rs ++ (bracket closes ∷ []))) ++ ps) ++ s
    ≡ ((bracket (opens g) ∷ (ws ++ (bracket closes ∷ []))) ++ qs) ++ t
    → (f ≡ g) × (rs ++ (bracket closes ∷ (ps ++ s)) ≡ ws ++ (bracket closes ∷ (qs ++ t)))
regroup f g rs ws ps qs s t e =
    let one : (x : Face) (xs ys zs : List StreamToken) → ((bracket (opens x) ∷ (xs ++ (bracket closes ∷ []))) ++ ys) ++ zs
    ≡ bracket (opens x) ∷ (xs ++ (bracket closes ∷ (ys ++ zs))) =
    λ x xs ys zs. simp append_assoc in
    let h : bracket (opens f) ∷ (rs ++ (bracket closes ∷ (ps ++ s))) ≡ bracket (opens g) ∷ (ws ++ (bracket closes ∷ (qs ++ t))) =
    sym (one f rs ps s) ∙ e ∙ one g ws qs t in
    (cc h, cc h)

after_close : (s t : List StreamToken) → bracket closes ∷ s ≡ bracket closes ∷ t → s ≡ t
after_close s t e = cc

stops_close : (s : List StreamToken) → Stops (bracket closes ∷ s)
stops_close s = tt

-- a normal list is determined by its signs, whatever follows that ends it
one_plain : (ps qs : Plains) (s t : List StreamToken) → Normal ps → Normal qs → Stops s → Stops t → plain_signs ps ++ s ≡ plain_signs qs ++ t → (ps ≡ qs) × (s ≡ t)
one_plain ended ended s t m n p q e = (refl, e)
one_plain ended (along (text []) qs) s t m n p q e = absurd (omega (arith, n.0.0))
one_plain ended (along (text (b ∷ bs)) qs) s t m n p q e = absurd (let P : List StreamToken → Type 0 = Stops in subst P e p)
one_plain ended (along (element f rs) qs) s t m n p q e = absurd (let P : List StreamToken → Type 0 = Stops in subst P e p)
one_plain (along (text []) ps) ended s t m n p q e = absurd (omega (arith, m.0.0))
one_plain (along (text (b ∷ bs)) ps) ended s t m n p q e = absurd (let P : List StreamToken → Type 0 = Stops in subst P (sym e) q)
one_plain (along (element f rs) ps) ended s t m n p q e = absurd (let P : List StreamToken → Type 0 = Stops in subst P (sym e) q)
one_plain (along (text bs) ps) (along (text cs) qs) s t m n p q e =
    let e1 : map byte bs ++ (plain_signs ps ++ s) ≡ map byte cs ++ (plain_signs qs ++ t) =
    sym (append_assoc (map byte bs) (plain_signs ps) s) ∙ e ∙ append_assoc (map byte cs) (plain_signs qs) t in
    let r = one_text bs cs (plain_signs ps ++ s) (plain_signs qs ++ t) (no_byte ps s m.0.1 p) (no_byte qs t n.0.1 q) e1 in
    let k = one_plain ps qs s t m.1 n.1 p q r.1 in
    (cc (r.0, k.0), k.1)
one_plain (along (text []) ps) (along (element g ws) qs) s t m n p q e = absurd (omega (arith, m.0.0))
one_plain (along (text (b ∷ bs)) ps) (along (element g ws) qs) s t m n p q e = absurd (let P : List StreamToken → Type 0 = NoByte in subst P (sym e) tt)
one_plain (along (element f rs) ps) (along (text []) qs) s t m n p q e = absurd (omega (arith, n.0.0))
one_plain (along (element f rs) ps) (along (text (b ∷ bs)) qs) s t m n p q e = absurd (let P : List StreamToken → Type 0 = NoByte in subst P e tt)
one_plain (along (element f rs) ps) (along (element g ws) qs) s t m n p q e =
    let e1 = regroup f g (plain_signs rs) (plain_signs ws) (plain_signs ps) (plain_signs qs) s t e in
    let r = one_plain rs ws (bracket closes ∷ (plain_signs ps ++ s)) (bracket closes ∷ (plain_signs qs ++ t)) m.0 n.0 tt tt e1.1 in
    let k = one_plain ps qs s t m.1 n.1 p q (after_close (plain_signs ps ++ s) (plain_signs qs ++ t) r.1) in
    (cc (e1.0, r.0, k.0), k.1)

pub same_plain : (t u : Tree) → signs t ≡ signs u → plain t ≡ plain u
same_plain t u e =
    let f : plain_signs (plain t) ++ [] ≡ plain_signs (plain u) ++ [] =
    append-nil (plain_signs (plain t)) ∙ signs_before t ended ∙ append-nil (signs t) ∙ e ∙ sym (append-nil (signs u))
    ∙ sym (signs_before u ended) ∙ sym (append-nil (plain_signs (plain u))) in
    (one_plain (plain t) (plain u) [] [] (normal_before t ended tt) (normal_before u ended tt) tt tt f).0

pub same_signs : (t u : Tree) → plain t ≡ plain u → signs t ≡ signs u
same_signs t u e =
    sym (signs_before t ended ∙ append-nil (signs t)) ∙ ap plain_signs e ∙ (signs_before u ended ∙ append-nil (signs u))
