-- The laws that every crate uses: cases on a truth value, searches over places, counts, least values, tables, sums, one
-- stored place.
use Prim.Native.Nat.{ℕ, zero, suc, ◌+◌, ◌-◌, ◌≤◌, ◌<◌}
use mathlib.Core.Path.{◌≡◌, refl, sym, ap, ◌∙◌}
use mathlib.Core.Logic.{◌⊎◌, inl, inr}
use mathlib.Core.Bool.{Bool, true, false, cond, not, ◌&&◌, ◌||◌, true≢false}
use mathlib.Core.List.{List, [], ◌∷◌}
use native.Mathlib.Nat.{add-sub_of_le}
use native.Mathlib.Numerals.{add-one}
use native.Mathlib.Decide.{dec_lt, ℕ_discrete}
use native.Mathlib.Omega.{arith}
use lib.ListN.{length, get_or, set, drop, drop_of_length-le}
use lib.Dec.{eqb, ltb}
use lib.Seq.{ext_get_or, get_or-set_same, get_or-set_other, drop-cons, drop-drop}
use borrow.Author.Tests.{eqb-true, eq-eqb, ltb-true, lt-ltb, le-ltb}
use Rattle.basics.specs.Places.{first, some, stands, count, least, table, sum}

-- ---- cases

-- by cases on a truth value, with the equation
pub bcase {ℓ} : {C : Type ℓ} (b : Bool) → (b ≡ true → C) → (b ≡ false → C) → C
bcase true f g = f refl
bcase false f g = g refl

-- by cases on a decision
pub by_cases {ℓ} : {A : Type 0} {C : Type ℓ} → Dec A → (A → C) → ((A → ⊥) → C) → C
by_cases (yes a) f g = f a
by_cases (no a) f g = g a

-- by cases on a sum, the sum first
pub cases {ℓ} : {A B : Type 0} {C : Type ℓ} → A ⊎ B → (A → C) → (B → C) → C
cases (inl a) f g = f a
cases (inr b) f g = g b

-- below, or not below
pub lt_or_ge {ℓ} : {C : Type ℓ} (a b : ℕ) → (a < b → C) → (b ≤ a → C) → C
lt_or_ge a b f g = by_cases (dec_lt a b) f (λ h. g (omega arith))

-- below, equal or above
pub three_ways {ℓ} : {C : Type ℓ} (a b : ℕ) → (a < b → C) → (a ≡ b → C) → (b < a → C) → C
three_ways a b f g h = by_cases (dec_lt a b) f (λ p. by_cases (ℕ_discrete a b) g (λ q. h (omega arith)))

pub not_both {ℓ} : {C : Type ℓ} {b : Bool} → b ≡ true → b ≡ false → C
not_both p q = absurd (true≢false (sym p ∙ q))

-- ---- truth values

pub both_true : (a b : Bool) → a && b ≡ true → (a ≡ true) × (b ≡ true)
both_true true b e = (refl, e)
both_true false b e = not_both e refl

pub both : (a b : Bool) → a ≡ true → b ≡ true → a && b ≡ true
both true b p q = q
both false b p q = p

pub either_false : (a b : Bool) → a || b ≡ false → (a ≡ false) × (b ≡ false)
either_false true b e = not_both refl e
either_false false b e = (refl, e)

pub neither : (a b : Bool) → a ≡ false → b ≡ false → a || b ≡ false
neither true b p q = p
neither false b p q = q

pub either_left : (a b : Bool) → a ≡ true → a || b ≡ true
either_left true b p = refl
either_left false b p = not_both p refl

pub either_right : (a b : Bool) → b ≡ true → a || b ≡ true
either_right true b p = refl
either_right false b p = p

pub either_true : (a b : Bool) → a || b ≡ true → (a ≡ true) ⊎ (b ≡ true)
either_true true b e = inl refl
either_true false b e = inr e

pub not_of_true : {b : Bool} → b ≡ true → not b ≡ false
not_of_true e = ap not e

pub not_of_false : {b : Bool} → b ≡ false → not b ≡ true
not_of_false e = ap not e

pub same_truth : (a b : Bool) → (a ≡ true → b ≡ true) → (b ≡ true → a ≡ true) → a ≡ b
same_truth true b f g = sym (f refl)
same_truth false true f g = g refl
same_truth false false f g = refl

pub cond_true {ℓ} : {A : Type ℓ} {b : Bool} (x y : A) → b ≡ true → cond b x y ≡ x
cond_true {b = true} x y e = refl
cond_true {b = false} x y e = not_both e refl

pub cond_false {ℓ} : {A : Type ℓ} {b : Bool} (x y : A) → b ≡ false → cond b x y ≡ y
cond_false {b = true} x y e = not_both refl e
cond_false {b = false} x y e = refl

-- what neither of two is below
pub cond_ge : (b : Bool) {x y : ℕ} (m : ℕ) → m ≤ x → m ≤ y → m ≤ cond b x y
cond_ge true m p q = p
cond_ge false m p q = q

-- the same answer, and what is read off it, as the two clauses of a contract
pub read_off {ℓ} : {A B : Type ℓ} (f : A → B) {a b : A} → a ≡ b → record { answer : a ≡ b; numbers : f a ≡ f b }
read_off f e = record { answer = e; numbers = ap f e }

-- ---- the first marked place

pub first_hit : (marked : ℕ → Bool) (a left : ℕ) → marked a ≡ true → first marked a (suc left) ≡ a
unfolding first
first_hit marked a left e = cond_true _ _ e

pub first_miss : (marked : ℕ → Bool) (a left : ℕ) → marked a ≡ false → first marked a (suc left) ≡ first marked (suc a) left
unfolding first
first_miss marked a left e = cond_false _ _ e

pub first_end : (marked : ℕ → Bool) (a : ℕ) → first marked a zero ≡ a
unfolding first
first_end marked a = refl

pub first_low : (marked : ℕ → Bool) (a left : ℕ) → a ≤ first marked a left
first_low marked a zero = omega (arith, first_end marked a)
first_low marked a (suc left) =
    bcase (marked a)
    (λ e. omega (arith, first_hit marked a left e))
    (λ e. omega (arith, first_miss marked a left e, first_low marked (suc a) left))

pub first_high : (marked : ℕ → Bool) (a left : ℕ) → first marked a left ≤ a + left
first_high marked a zero = omega (arith, first_end marked a)
first_high marked a (suc left) =
    bcase (marked a)
    (λ e. omega (arith, first_hit marked a left e))
    (λ e. omega (arith, first_miss marked a left e, first_high marked (suc a) left))

-- a first place before the end is marked
pub first_marked : (marked : ℕ → Bool) (a left : ℕ) → first marked a left < a + left → marked (first marked a left) ≡ true
first_marked marked a zero h = absurd (omega (arith, first_end marked a))
first_marked marked a (suc left) h =
    bcase (marked a)
    (λ e. ap marked (first_hit marked a left e) ∙ e)
    (λ e.
    ap marked (first_miss marked a left e)
    ∙ first_marked marked (suc a) left (omega (arith, first_miss marked a left e)))

-- what lies before the first marked place is not marked
pub first_before : (marked : ℕ → Bool) (a left i : ℕ) → a ≤ i → i < first marked a left → marked i ≡ false
first_before marked a zero i h k = absurd (omega (arith, first_end marked a))
first_before marked a (suc left) i h k =
    bcase (marked a)
    (λ e. absurd (omega (arith, first_hit marked a left e)))
    (λ e.
    by_cases (ℕ_discrete a i)
    (λ (q : a ≡ i). ap marked (sym q) ∙ e)
    (λ q. first_before marked (suc a) left i (omega arith) (omega (arith, first_miss marked a left e))))

-- a marked place with none before it is the first
pub first_is : (marked : ℕ → Bool) (a left i : ℕ) → a ≤ i → i < a + left → marked i ≡ true
    → ((j : ℕ) → a ≤ j → j < i → marked j ≡ false) → first marked a left ≡ i
first_is marked a left i h k e none =
    three_ways (first marked a left) i
    (λ l. not_both (first_marked marked a left (omega arith)) (none (first marked a left) (first_low marked a left) l))
    (λ q. q)
    (λ g. not_both e (first_before marked a left i h g))

-- no place marked: the end
pub first_none : (marked : ℕ → Bool) (a left : ℕ) → ((j : ℕ) → a ≤ j → j < a + left → marked j ≡ false)
    → first marked a left ≡ a + left
first_none marked a left none =
    lt_or_ge (first marked a left) (a + left)
    (λ l. not_both (first_marked marked a left l) (none (first marked a left) (first_low marked a left) l))
    (λ g. omega (arith, first_high marked a left))

pub first_ext : (p q : ℕ → Bool) (a left : ℕ) → ((j : ℕ) → a ≤ j → j < a + left → p j ≡ q j) → first p a left ≡ first q a left
unfolding first
first_ext p q a zero same = refl
first_ext p q a (suc left) same =
    let here : p a ≡ q a = same a (omega arith) (omega arith) in
    let rest : first p (suc a) left ≡ first q (suc a) left =
    first_ext p q (suc a) left (λ j h k. same j (omega arith) (omega arith)) in
    λ i. cond (here i) a (rest i)

-- ---- some marked place

pub some_hit : (marked : ℕ → Bool) (a left : ℕ) → marked a ≡ true → some marked a (suc left) ≡ true
unfolding some
some_hit marked a left e = cond_true _ _ e

pub some_miss : (marked : ℕ → Bool) (a left : ℕ) → marked a ≡ false → some marked a (suc left) ≡ some marked (suc a) left
unfolding some
some_miss marked a left e = cond_false _ _ e

pub some_end : (marked : ℕ → Bool) (a : ℕ) → some marked a zero ≡ false
unfolding some
some_end marked a = refl

-- a marked place makes it true
pub some_one : (marked : ℕ → Bool) (a left i : ℕ) → a ≤ i → i < a + left → marked i ≡ true → some marked a left ≡ true
some_one marked a zero i h k e = absurd (omega arith)
some_one marked a (suc left) i h k e =
    bcase (marked a) (some_hit marked a left)
    (λ m.
    some_miss marked a left m
    ∙ by_cases (ℕ_discrete a i)
    (λ (q : a ≡ i). not_both (ap marked q ∙ e) m)
    (λ q. some_one marked (suc a) left i (omega arith) (omega arith) e))

-- where it is true there is one
pub some_found : (marked : ℕ → Bool) (a left : ℕ) → some marked a left ≡ true
    → (i : ℕ) × (a ≤ i) × (i < a + left) × (marked i ≡ true)
some_found marked a zero t = not_both t (some_end marked a)
some_found marked a (suc left) t =
    bcase (marked a)
    (λ e. (a, omega arith, omega arith, e))
    (λ e.
    let (i, h, k, m) = some_found marked (suc a) left (sym (some_miss marked a left e) ∙ t) in
    (i, omega arith, omega arith, m))

-- where it is false none is marked
pub some_not : (marked : ℕ → Bool) (a left i : ℕ) → some marked a left ≡ false → a ≤ i → i < a + left → marked i ≡ false
some_not marked a left i t h k = bcase (marked i) (λ e. not_both (some_one marked a left i h k e) t) (λ e. e)

-- none marked makes it false
pub some_none : (marked : ℕ → Bool) (a left : ℕ) → ((j : ℕ) → a ≤ j → j < a + left → marked j ≡ false) → some marked a left ≡ false
some_none marked a left none =
    bcase (some marked a left)
    (λ t.
    let (i, h, k, m) = some_found marked a left t in
    not_both m (none i h k))
    (λ f. f)

pub some_ext : (p q : ℕ → Bool) (a left : ℕ) → ((j : ℕ) → a ≤ j → j < a + left → p j ≡ q j) → some p a left ≡ some q a left
some_ext p q a zero same = some_end p a ∙ sym (some_end q a)
some_ext p q a (suc left) same =
    bcase (p a)
    (λ e. some_hit p a left e ∙ sym (some_hit q a left (sym (same a (omega arith) (omega arith)) ∙ e)))
    (λ e.
    some_miss p a left e
    ∙ some_ext p q (suc a) left (λ j h k. same j (omega arith) (omega arith))
    ∙ sym (some_miss q a left (sym (same a (omega arith) (omega arith)) ∙ e)))

-- ---- what stands at a place

pub stands_at : (f : ℕ → ℕ) (k r : ℕ) {v : ℕ} → r < k → f r ≡ v → stands f k v ≡ true
unfolding stands
stands_at f k r {v} h e = some_one (λ j. eqb (f j) v) 0 k r (omega arith) (omega arith) (eq-eqb (f r) v e)

pub stands_by : (f : ℕ → ℕ) (k v : ℕ) → stands f k v ≡ true → (r : ℕ) × (r < k) × (f r ≡ v)
unfolding stands
stands_by f k v e =
    let (r, low, h, m) = some_found (λ j. eqb (f j) v) 0 k e in
    (r, omega arith, eqb-true (f r) v m)

pub stands_not : (f : ℕ → ℕ) (k v : ℕ) → ((r : ℕ) → r < k → f r ≡ v → ⊥) → stands f k v ≡ false
stands_not f k v never =
    bcase (stands f k v)
    (λ e.
    let (r, h, q) = stands_by f k v e in
    absurd (never r h q))
    (λ e. e)

-- nothing stands below place 0
pub stands_none : (f : ℕ → ℕ) (v : ℕ) → stands f 0 v ≡ false
unfolding stands
stands_none f v = some_end _ 0

-- one place on, all but what stands there stands as before
pub stands_other : (f : ℕ → ℕ) (r v : ℕ) → (v ≡ f r → ⊥) → stands f (r + 1) v ≡ stands f r v
stands_other f r v apart =
    same_truth _ _
    (λ t.
    let (j, h, e) = stands_by f (r + 1) v t in
    by_cases (ℕ_discrete j r)
    (λ (q : j ≡ r). absurd (apart (sym e ∙ ap f q)))
    (λ q. stands_at f r j (omega arith) e))
    (λ t.
    let (j, h, e) = stands_by f r v t in
    stands_at f (r + 1) j (omega arith) e)

-- numbers that differ at different places stand at one place each
pub once_same : (n : ℕ) (f : ℕ → ℕ) → ((r s : ℕ) → r < s → s < n → f r ≡ f s → ⊥)
    → (r s : ℕ) → r < n → s < n → f r ≡ f s → r ≡ s
once_same n f once r s h k e =
    three_ways r s (λ l. absurd (once r s l k e)) (λ q. q) (λ g. absurd (once s r g h (sym e)))

-- what never falls from one place to the next never falls
pub never_falls : (f : ℕ → ℕ) (n : ℕ) → ((v : ℕ) → v < n → f v ≤ f (v + 1)) → (u v : ℕ) → u ≤ v → v ≤ n → f u ≤ f v
never_falls f n rise u zero h k = omega (arith, ap f (let e : u ≡ 0 = omega arith in e))
never_falls f n rise u (suc v) h k =
    by_cases (ℕ_discrete u (suc v))
    (λ (e : u ≡ suc v). omega (arith, ap f e))
    (λ e. omega (arith, ap f (add-one v), never_falls f n rise u v (omega arith) (omega arith), rise v (omega arith)))

-- ---- how many are marked

pub count_none : (marked : ℕ → Bool) → count marked zero ≡ 0
unfolding count
count_none marked = refl

pub count_hit : (marked : ℕ → Bool) (n : ℕ) → marked n ≡ true → count marked (suc n) ≡ suc (count marked n)
unfolding count
count_hit marked n e = cond_true _ _ e

pub count_miss : (marked : ℕ → Bool) (n : ℕ) → marked n ≡ false → count marked (suc n) ≡ count marked n
unfolding count
count_miss marked n e = cond_false _ _ e

pub count_most : (marked : ℕ → Bool) (n : ℕ) → count marked n ≤ n
count_most marked zero = omega (arith, count_none marked)
count_most marked (suc n) =
    bcase (marked n)
    (λ e. omega (arith, count_hit marked n e, count_most marked n))
    (λ e. omega (arith, count_miss marked n e, count_most marked n))

pub count_ext : (p q : ℕ → Bool) (n : ℕ) → ((i : ℕ) → i < n → p i ≡ q i) → count p n ≡ count q n
count_ext p q zero same = count_none p ∙ sym (count_none q)
count_ext p q (suc n) same =
    let rest : count p n ≡ count q n = count_ext p q n (λ i h. same i (omega arith)) in
    let last : p n ≡ q n = same n (omega arith) in
    bcase (p n)
    (λ e. count_hit p n e ∙ ap suc rest ∙ sym (count_hit q n (sym last ∙ e)))
    (λ e. count_miss p n e ∙ rest ∙ sym (count_miss q n (sym last ∙ e)))

-- whatever p marks, q marks
pub count_le : (p q : ℕ → Bool) (n : ℕ) → ((i : ℕ) → i < n → p i ≡ true → q i ≡ true) → count p n ≤ count q n
count_le p q zero more = omega (arith, count_none p)
count_le p q (suc n) more =
    let rest : count p n ≤ count q n = count_le p q n (λ i h. more i (omega arith)) in
    bcase (p n)
    (λ e. omega (arith, count_hit p n e, count_hit q n (more n (omega arith) e)))
    (λ e.
    bcase (q n)
    (λ f. omega (arith, count_miss p n e, count_hit q n f))
    (λ f. omega (arith, count_miss p n e, count_miss q n f)))

-- whatever p marks, q marks, and b besides
pub count_more : (p q : ℕ → Bool) (n b : ℕ) → ((i : ℕ) → i < n → p i ≡ true → q i ≡ true) → b < n → p b ≡ false → q b ≡ true
    → count p n < count q n
count_more p q zero b more h e f = absurd (omega arith)
count_more p q (suc n) b more h e f =
    by_cases (ℕ_discrete b n)
    (λ (k : b ≡ n).
    let rest : count p n ≤ count q n = count_le p q n (λ i l. more i (omega arith)) in
    omega (arith, count_miss p n (ap p (sym k) ∙ e), count_hit q n (ap q (sym k) ∙ f)))
    (λ k.
    let rest : count p n < count q n = count_more p q n b (λ i l. more i (omega arith)) (omega arith) e f in
    bcase (p n)
    (λ g. omega (arith, count_hit p n g, count_hit q n (more n (omega arith) g)))
    (λ g.
    bcase (q n)
    (λ l. omega (arith, count_miss p n g, count_hit q n l))
    (λ l. omega (arith, count_miss p n g, count_miss q n l))))

-- a place that is not marked keeps the count below n
pub count_gap : (p : ℕ → Bool) (n b : ℕ) → b < n → p b ≡ false → count p n < n
count_gap p n b h e =
    let all : ℕ → Bool = λ i. true in
    omega (arith, count_more p all n b (λ i l m. refl) h e refl, count_most all n)

-- ---- the least value

pub least_most : (most k : ℕ) (f : ℕ → ℕ) → least most k f ≤ most
unfolding least
least_most most zero f = omega arith
least_most most (suc k) f = omega (arith, least_most most k f)

pub least_le : (most k : ℕ) (f : ℕ → ℕ) (i : ℕ) → i < k → least most k f ≤ f i
unfolding least
least_le most zero f i h = absurd (omega arith)
least_le most (suc k) f i h =
    by_cases (ℕ_discrete i k)
    (λ (q : i ≡ k). omega (arith, ap f q))
    (λ q. omega (arith, least_le most k f i (omega arith)))

pub least_ge : (most k : ℕ) (f : ℕ → ℕ) (m : ℕ) → m ≤ most → ((i : ℕ) → i < k → m ≤ f i) → m ≤ least most k f
unfolding least
least_ge most zero f m h all = h
least_ge most (suc k) f m h all =
    omega (arith, all k (omega arith), least_ge most k f m h (λ i l. all i (omega arith)))

-- the least value is `most`, or one of the values
pub least_found : (most k : ℕ) (f : ℕ → ℕ) → least most k f < most → (i : ℕ) × (i < k) × (f i ≡ least most k f)
unfolding least
least_found most zero f h = absurd (omega arith)
least_found most (suc k) f h =
    lt_or_ge (least most k f) (f k)
    (λ l.
    let (i, b, e) = least_found most k f (omega arith) in
    (i, omega arith, omega arith))
    (λ g. (k, omega arith, omega arith))

pub least_ext : (most k : ℕ) (f g : ℕ → ℕ) → ((i : ℕ) → i < k → f i ≡ g i) → least most k f ≡ least most k g
unfolding least
least_ext most zero f g same = refl
least_ext most (suc k) f g same =
    omega (arith, same k (omega arith), least_ext most k f g (λ i h. same i (omega arith)))

-- ---- tables

pub length_table {ℓ} : {A : Type ℓ} (n : ℕ) (f : ℕ → A) → length (table n f) ≡ n
unfolding table
length_table zero f = refl
length_table (suc n) f = ap suc (length_table n (λ i. f (suc i)))

pub get_d_table {ℓ} : {A : Type ℓ} (n : ℕ) (f : ℕ → A) (i : ℕ) (d : A) → i < n → get_or (table n f) i d ≡ f i
unfolding table
get_d_table zero f i d h = absurd (omega arith)
get_d_table (suc n) f zero d h = refl
get_d_table (suc n) f (suc i) d h = get_d_table n (λ j. f (suc j)) i d (omega arith)

-- a list with a table's length and elements is that table
pub is_table {ℓ} : {A : Type ℓ} (d : A) (l : List A) (n : ℕ) (f : ℕ → A) → length l ≡ n
    → ((i : ℕ) → i < n → get_or l i d ≡ f i) → l ≡ table n f
is_table d l n f e same =
    ext_get_or d l (table n f) (e ∙ sym (length_table n f))
    (λ i h. same i (omega arith) ∙ sym (get_d_table n f i d (omega arith)))

pub table_ext {ℓ} : {A : Type ℓ} (n : ℕ) (f g : ℕ → A) → ((i : ℕ) → i < n → f i ≡ g i) → table n f ≡ table n g
unfolding table
table_ext zero f g same = refl
table_ext (suc n) f g same =
    let one : f zero ≡ g zero = same zero (omega arith) in
    let rest : table n (λ i. f (suc i)) ≡ table n (λ i. g (suc i)) =
    table_ext n (λ i. f (suc i)) (λ i. g (suc i)) (λ i h. same (suc i) (omega arith)) in
    λ j. one j ∷ rest j

-- ---- one stored place

-- after a store, a place holds what was stored if it is that place, and what it held if not
pub at_set {ℓ} : {A : Type ℓ} (l : List A) (i j : ℕ) (a d x : A) → i < length l → (j ≡ i → a ≡ x)
    → ((j ≡ i → ⊥) → get_or l j d ≡ x) → get_or (set l i a) j d ≡ x
at_set l i j a d x h same other =
    by_cases (ℕ_discrete j i)
    (λ (q : j ≡ i). ap (λ (k : ℕ). get_or (set l i a) k d) q ∙ get_or-set_same l i a d h ∙ same q)
    (λ q. get_or-set_other l i j a d q ∙ other q)

pub set_cases {ℓ} : {A : Type ℓ} (l : List A) (i j : ℕ) (a d : A) → i < length l
    → ((j ≡ i) × (get_or (set l i a) j d ≡ a)) ⊎ ((j ≡ i → ⊥) × (get_or (set l i a) j d ≡ get_or l j d))
set_cases l i j a d h =
    by_cases (ℕ_discrete j i)
    (λ (q : j ≡ i). inl (q, ap (λ (k : ℕ). get_or (set l i a) k d) q ∙ get_or-set_same l i a d h))
    (λ q. inr (q, get_or-set_other l i j a d q))

pub set_own : (l : List ℕ) (i : ℕ) → set l i (get_or l i 0) ≡ l
set_own [] i = refl
set_own (x ∷ l) zero = refl
set_own (x ∷ l) (suc i) = ap (◌∷◌ x) (set_own l i)

-- what is left shrinks by one
pub less_one : {v n : ℕ} → v < n → n - v ≡ suc (n - (v + 1))
less_one h = omega arith

-- ---- a search from v up to an end, as a loop goes

past_one : {A : Type 0} (f : ℕ → ℕ → A) (v end : ℕ) → v < end → f v (suc (end - (v + 1))) ≡ f (suc v) (end - (v + 1))
    → f (v + 1) (end - (v + 1)) ≡ f v (end - v)
past_one f v end h e = ap (λ (k : ℕ). f k (end - (v + 1))) (add-one v) ∙ sym (ap (f v) (less_one h) ∙ e)

no_more : {v end : ℕ} → end ≤ v → end - v ≡ 0
no_more h = omega arith

pub first_here : (marked : ℕ → Bool) (v end : ℕ) → v < end → marked v ≡ true → first marked v (end - v) ≡ v
first_here marked v end h e = ap (first marked v) (less_one h) ∙ first_hit marked v (end - (v + 1)) e

pub first_step : (marked : ℕ → Bool) (v end : ℕ) → v < end → marked v ≡ false
    → first marked (v + 1) (end - (v + 1)) ≡ first marked v (end - v)
first_step marked v end h e = past_one (first marked) v end h (first_miss marked v (end - (v + 1)) e)

pub first_over : (marked : ℕ → Bool) (v end : ℕ) → end ≤ v → first marked v (end - v) ≡ v
first_over marked v end h = ap (first marked v) (no_more h) ∙ first_end marked v

pub some_here : (marked : ℕ → Bool) (v end : ℕ) → v < end → marked v ≡ true → some marked v (end - v) ≡ true
some_here marked v end h e = ap (some marked v) (less_one h) ∙ some_hit marked v (end - (v + 1)) e

pub some_step : (marked : ℕ → Bool) (v end : ℕ) → v < end → marked v ≡ false
    → some marked (v + 1) (end - (v + 1)) ≡ some marked v (end - v)
some_step marked v end h e = past_one (some marked) v end h (some_miss marked v (end - (v + 1)) e)

pub some_over : (marked : ℕ → Bool) (v end : ℕ) → end ≤ v → some marked v (end - v) ≡ false
some_over marked v end h = ap (some marked v) (no_more h) ∙ some_end marked v

-- some place is marked exactly if the first marked place lies before the end
pub some_first : (marked : ℕ → Bool) (a left : ℕ) → first marked a left < a + left → some marked a left ≡ true
some_first marked a left h =
    some_one marked a left (first marked a left) (first_low marked a left) h (first_marked marked a left h)

pub none_first : (marked : ℕ → Bool) (a left : ℕ) → a + left ≤ first marked a left → some marked a left ≡ false
none_first marked a left h = some_none marked a left (λ j low high. first_before marked a left j low (omega arith))

-- a search over n places that ends at n has found none marked, and the other way
pub end_none : (marked : ℕ → Bool) (n : ℕ) → eqb (first marked 0 n) n ≡ true → (v : ℕ) → v < n → marked v ≡ false
end_none marked n e v h = first_before marked 0 n v (omega arith) (omega (arith, eqb-true (first marked 0 n) n e))

pub none_end : (marked : ℕ → Bool) (n : ℕ) → ((v : ℕ) → v < n → marked v ≡ false) → eqb (first marked 0 n) n ≡ true
none_end marked n none = eq-eqb (first marked 0 n) n (first_none marked 0 n (λ j low high. none j (omega arith)) ∙ omega arith)

-- a place that a search gave is not before its start
pub found_low : (marked : ℕ → Bool) (a left : ℕ) {i : ℕ} → i ≡ first marked a left → a ≤ i
found_low marked a left e = omega (arith, first_low marked a left)

-- ---- counts of several marks

-- none is marked
pub count_zero : (p : ℕ → Bool) (n : ℕ) → ((i : ℕ) → i < n → p i ≡ false) → count p n ≡ 0
count_zero p zero none = count_none p
count_zero p (suc n) none = count_miss p n (none n (omega arith)) ∙ count_zero p n (λ i h. none i (omega arith))

-- none is counted, and none is marked; some are counted, and one is marked
pub none_counted : (p : ℕ → Bool) (k : ℕ) → count p k ≡ 0 → (i : ℕ) → i < k → p i ≡ false
none_counted p zero e i h = absurd (omega arith)
none_counted p (suc k) e i h =
    bcase (p k)
    (λ q. absurd (omega (arith, count_hit p k q)))
    (λ q.
    by_cases (ℕ_discrete i k)
    (λ (r : i ≡ k). ap p r ∙ q)
    (λ r. none_counted p k (sym (count_miss p k q) ∙ e) i (omega arith)))

pub some_counted : (p : ℕ → Bool) (k : ℕ) → 0 < count p k → some p 0 k ≡ true
some_counted p k h =
    bcase (some p 0 k)
    (λ q. q)
    (λ q. absurd (omega (arith, count_zero p k (λ i b. some_not p 0 k i q (omega arith) (omega arith)))))

-- what one of two marks, where never both do
pub count_or : (p q : ℕ → Bool) (n : ℕ) → ((i : ℕ) → p i ≡ true → q i ≡ false) → count (λ i. p i || q i) n ≡ count p n + count q n
count_or p q zero apart = omega (arith, count_none p, count_none q, count_none (λ i. p i || q i))
count_or p q (suc n) apart =
    let one : ℕ → Bool = λ i. p i || q i in
    let rest : count one n ≡ count p n + count q n = count_or p q n apart in
    bcase (p n)
    (λ e. omega (arith, count_hit one n (either_left (p n) (q n) e), count_hit p n e, count_miss q n (apart n e)))
    (λ e.
    bcase (q n)
    (λ f. omega (arith, count_hit one n (either_right (p n) (q n) f), count_miss p n e, count_hit q n f))
    (λ f. omega (arith, count_miss one n (neither (p n) (q n) e f), count_miss p n e, count_miss q n f)))

-- more lie below a greater bound, where one lies between the two
pub count_lower : (f : ℕ → ℕ) (n u a b : ℕ) → u < n → a ≤ f u → f u < b → count (λ v. ltb (f v) a) n < count (λ v. ltb (f v) b) n
count_lower f n u a b h low high =
    count_more (λ v. ltb (f v) a) (λ v. ltb (f v) b) n u
    (λ v l m. lt-ltb (f v) b (omega (arith, ltb-true (f v) a m)))
    h (le-ltb (f u) a low) (lt-ltb (f u) b high)

-- ---- a list from a place on

-- what two lists share from a place on they share from any later place on
pub drop_later {ℓ} : {A : Type ℓ} (l m : List A) (a b : ℕ) → a ≤ b → drop a l ≡ drop a m → drop b l ≡ drop b m
drop_later l m a b h e =
    let k : a + (b - a) ≡ b = add-sub_of_le h in
    ap (λ (i : ℕ). drop i l) (sym k) ∙ sym (drop-drop (b - a) a l) ∙ ap (drop (b - a)) e ∙ drop-drop (b - a) a m ∙ ap (λ (i : ℕ). drop i m) k

-- ---- the sum from a place on

pub sum_from : (l : List ℕ) (i : ℕ) → i < length l → sum (drop i l) ≡ get_or l i 0 + sum (drop (i + 1) l)
unfolding sum
sum_from l i h = rw (add-one i, drop-cons l i 0 h)

pub sum_over : (l : List ℕ) (i : ℕ) → length l ≤ i → sum (drop i l) ≡ 0
unfolding sum
sum_over l i h = ap sum (drop_of_length-le l {i = i} h)

pub sum_part : (l : List ℕ) (i : ℕ) → sum (drop i l) ≤ sum l
unfolding sum
sum_part l zero = omega arith
sum_part [] (suc i) = omega arith
sum_part (x ∷ l) (suc i) = omega (arith, sum_part l i)
