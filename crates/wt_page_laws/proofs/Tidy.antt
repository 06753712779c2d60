-- JSON that was read has the keys of each object in byte order, each once.
use Rattle.std.proofs.Common.{◌≡◌, refl, ◌∙◌, ap, ℕ, Option, Some, None, List}
use Rattle.std.specs.Prelude.{option_map, option_and_then, IfSome}
use Rattle.std.specs.Ordering.{nat_cmp, match_ordering, ordering_reverse}
use Rattle.std.specs.Cmp.Lexicographic.{slice_cmp}
use Rattle.std.specs.declared.cmp.Ordering.{Ordering}
use Rattle.std.specs.declared.cmp.Ordering.TheVariants.{Less, Equal, Greater}
use Rattle.std.proofs.lemmas.Cmp.{nat_list_cmp_total}
use Rattle.json.specs.Lex.{tokens}
use Rattle.json.specs.Json as json
use Rattle.serde_json.specs.Data.{Data, null, boolean, number, string, array, object, Items, no_items, item, Members, no_members, member, put}
use Rattle.serde_json.specs.Read.{number_of, of_json, of_items, of_members, max_depth, read}

-- all keys are above this one
abbrev pub Above : List ℕ → Members → Type 0
Above k no_members = Unit {0}
Above k (member l d ms) = (slice_cmp nat_cmp k l ≡ Less) × Above k ms

abbrev mutual
  pub Tidy : Data → Type 0
  Tidy null = Unit {0}
  Tidy (boolean b) = Unit {0}
  Tidy (number n) = Unit {0}
  Tidy (string s) = Unit {0}
  Tidy (array ds) = ItemsTidy ds
  Tidy (object ms) = Sorted ms

  pub ItemsTidy : Items → Type 0
  ItemsTidy no_items = Unit {0}
  ItemsTidy (item d ds) = Tidy d × ItemsTidy ds

  pub Sorted : Members → Type 0
  Sorted no_members = Unit {0}
  Sorted (member k d ms) = Above k ms × Tidy d × Sorted ms

by_order : (P : Members → Type 0) (o : Ordering) (a b c : Members) → (o ≡ Less → P a) → (o ≡ Equal → P b) → (o ≡ Greater → P c) → P (match_ordering o a b c)
by_order P Less a b c e f g = e refl
by_order P Equal a b c e f g = f refl
by_order P Greater a b c e f g = g refl

above_put : (j k : List ℕ) (d : Data) (ms : Members) → slice_cmp nat_cmp j k ≡ Less → Above j ms → Above j (put k d ms)
above_put j k d no_members e h = (e, tt)
above_put j k d (member l x ms) e h =
    by_order (Above j) (slice_cmp nat_cmp k l) (member k d (member l x ms)) (member l d ms) (member l x (put k d ms))
    (λ q. (e, h)) (λ q. h) (λ q. (h.0, above_put j k d ms e h.1))

pub above_more : (j k : List ℕ) (ms : Members) → slice_cmp nat_cmp j k ≡ Less → Above k ms → Above j ms
above_more j k no_members e h = tt
above_more j k (member l x ms) e h = (nat_list_cmp_total.trans j k l e h.0, above_more j k ms e h.1)

put_sorted : (k : List ℕ) (d : Data) (ms : Members) → Tidy d → Sorted ms → Sorted (put k d ms)
put_sorted k d no_members t s = (tt, t, tt)
put_sorted k d (member l x ms) t s =
    by_order Sorted (slice_cmp nat_cmp k l) (member k d (member l x ms)) (member l d ms) (member l x (put k d ms))
    (λ e. ((e, above_more k l ms e s.0), t, s))
    (λ e. (s.0, t, s.2))
    (λ e. (above_put l k d ms (nat_list_cmp_total.antisymm l k ∙ ap ordering_reverse e) s.0, s.1, put_sorted k d ms t s.2))

if_mapped : {A B : Type 0} (P : A → Type 0) (Q : B → Type 0) (f : A → B) (o : Option A) → IfSome o P → ((x : A) → P x → Q (f x)) → IfSome (option_map f o) Q
if_mapped P Q f None h g = tt
if_mapped P Q f (Some x) h g = g x h

if_then : {A B : Type 0} (P : A → Type 0) (Q : B → Type 0) (f : A → Option B) (o : Option A) → IfSome o P → ((x : A) → P x → IfSome (f x) Q) → IfSome (option_and_then f o) Q
if_then P Q f None h g = tt
if_then P Q f (Some x) h g = g x h

numbers_tidy : (s : List ℕ) → IfSome (option_map number (number_of s)) Tidy
numbers_tidy s = by (number_of s)
  where
    by : (o : _) → IfSome (option_map number o) Tidy
    by None = tt
    by (Some n) = tt

mutual
  json_tidy : (j : json.Json) → IfSome (of_json j) Tidy
  json_tidy json.null = tt
  json_tidy (json.boolean b) = tt
  json_tidy (json.number s) = numbers_tidy s
  json_tidy (json.string s) = tt
  json_tidy (json.array js) = if_mapped ItemsTidy Tidy array (of_items js) (items_tidy js) (λ ds h. h)
  json_tidy (json.object ms) = if_mapped Sorted Tidy object (of_members ms no_members) (members_sorted ms no_members tt) (λ ds h. h)

  items_tidy : (js : json.Items) → IfSome (of_items js) ItemsTidy
  items_tidy json.no_items = tt
  items_tidy (json.item j js) =
      if_then Tidy ItemsTidy (λ d. option_map (item d) (of_items js)) (of_json j) (json_tidy j)
      (λ d h. if_mapped ItemsTidy ItemsTidy (item d) (of_items js) (items_tidy js) (λ ds g. (h, g)))

  members_sorted : (ms : json.Members) (found : Members) → Sorted found → IfSome (of_members ms found) Sorted
  members_sorted json.no_members found s = s
  members_sorted (json.member k j ms) found s =
      if_then Tidy Sorted (λ d. of_members ms (put k d found)) (of_json j) (json_tidy j)
      (λ d h. members_sorted ms (put k d found) (put_sorted k d found h s))

pub read_tidy : (text : List ℕ) → IfSome (read text) Tidy
read_tidy text = by (option_and_then (λ p. json.if_last p.0 p.1) (json.value max_depth (tokens text)))
  where
    by : (o : Option json.Json) → IfSome (option_and_then of_json o) Tidy
    by None = tt
    by (Some j) = json_tidy j
