-- The jump to a vector beside its test: what log and record show after it is what `reach_test` says.
use Rattle.std.specs.Prelude.{ℕ, suc, ◌+◌, ◌%◌, ◌^◌, ◌≡◌, Bool, not, eqb, length}
use Rattle.std.proofs.Math.Path.{refl, ap}
use Rattle.std.proofs.Common.{sym, ◌∙◌, subst, arith}
use Rattle.std.proofs.Math.Bool.{true, false}
use Rattle.types.specs.Kinds.{pick, either, both}
use Rattle.cpu.specs.declared.Cpu.{Cpu}
use Rattle.cpu.specs.Fields.{pc_of, address_of, is_faulted, checks_alignment, set_pc, start_vector, odd_pc}
use Rattle.cpu.specs.Clocks.{has_clocks, clocks_of, prefetch_enabled, one_fetched, internal_cycles, set_clocks, clear_prefetch, first_word, second_word}
use Rattle.memory.specs.declared.Bus.{Bus}
use Rattle.memory.specs.Served.{served_of}
use Rattle.memory.specs.World.{World, Attempt, with_cpu, put_cpu, served, release, cpu_of}
use Rattle.steps.specs.Steps.{refuses_odd, vector_address}
use Rattle.access.specs.Access.{prefetch_read, kept_first, first_from, prefetch_first, kept_second, second_from, prefetch_second, read_at, vector_read, refill, jump_to, jump_vector, trigger}
use Rattle.bounds.specs.Levels.{clash}
use Rattle.images.specs.Jumps.{vector_place, handler}
use Rattle.forms.specs.Gist.{gist, gist_cpu, faulted_gist}
use Rattle.forms.specs.Jumps.{jumped, landed, land_form, vector_gist, jumped_enabled, jumped_pc, jumped_odd, jumped_address, jumped_served}
use Rattle.forms.specs.Tests.{reach_test, both_of, not_of}
use Rattle.forms.specs.Quiet.{Booked, Scene, Tale, Turn, gist_tale, scene_get, judge_none, both_named, both_both, book_turn, tale_less, tale_faulted, tale_note, tale_cycles, tale_read, tale_fetch, tale_turn}

-- ---- the queue

module _ {x : Cpu} {b : Bus} {len : ℕ} where
  -- a step of the queue leaves the scene
  tale_queue : {n : ℕ} {d : Bool} (w : World) (f : Cpu → Cpu) → ((c : Cpu) → gist_cpu (f c) ≡ gist_cpu c) → ((c : Cpu) → is_faulted (f c) ≡ is_faulted c) → ((c : Cpu) → has_clocks (f c) ≡ has_clocks c)
      → Tale x b len n d w → Tale x b len n d (with_cpu w (f (cpu_of w)))
  unfolding put_cpu
  tale_queue w f g r h p =
      record { scene = λ e. let s = p.scene e in record { cpu = g (cpu_of w) ∙ s.cpu; bus = s.bus; size = s.size }; book = rw (r (cpu_of w), h (cpu_of w)) p.book }

  tale_clear : {n : ℕ} {d : Bool} (w : World) → Tale x b len n d w → Tale x b len n d (with_cpu w (clear_prefetch (cpu_of w)))
  unfolding clear_prefetch gist_cpu is_faulted has_clocks
  tale_clear w p = tale_queue w clear_prefetch (λ c. refl) (λ c. refl) (λ c. refl) p

  tale_first_word : {n : ℕ} {d : Bool} (w : World) (v : ℕ) → Tale x b len n d w → Tale x b len n d (with_cpu w (first_word (cpu_of w) v))
  unfolding first_word gist_cpu is_faulted has_clocks
  tale_first_word w v p = tale_queue w (λ c. first_word c v) (λ c. refl) (λ c. refl) (λ c. refl) p

  tale_second_word : {n : ℕ} {d : Bool} (w : World) (v : ℕ) → Tale x b len n d w → Tale x b len n d (with_cpu w (second_word (cpu_of w) v))
  unfolding second_word gist_cpu is_faulted has_clocks
  tale_second_word w v p = tale_queue w (λ c. second_word c v) (λ c. refl) (λ c. refl) (λ c. refl) p

module _ {x : Cpu} {b : Bus} {len : ℕ} {w : World} (s : Scene x b len w) where
  scene_enabled : prefetch_enabled (cpu_of w) ≡ prefetch_enabled x
  unfolding gist_cpu prefetch_enabled
  scene_enabled = scene_get s prefetch_enabled (λ c. refl)

  scene_pc : pc_of (cpu_of w) ≡ pc_of x
  unfolding gist_cpu pc_of
  scene_pc = scene_get s pc_of (λ c. refl)

  scene_odd_pc : odd_pc (cpu_of w) ≡ odd_pc x
  unfolding gist_cpu odd_pc pc_of
  scene_odd_pc = scene_get s odd_pc (λ c. refl)

word_queued : (w : World) (v : ℕ) → one_fetched (cpu_of (with_cpu w (first_word (cpu_of w) v))) ≡ true
unfolding put_cpu first_word one_fetched
word_queued w v = refl

-- the test of a word for the queue: there is none, or PC is odd, or it is served
abbrev word_test : Cpu → Bool → Bool
word_test x s = either (not (prefetch_enabled x)) (either (odd_pc x) s)

no_queue : (x : Cpu) (s : Bool) → prefetch_enabled x ≡ false → word_test x s ≡ true
no_queue x s h = rw h

odd_queue : (x : Cpu) (s : Bool) → odd_pc x ≡ true → word_test x s ≡ true
odd_queue x s h = go (prefetch_enabled x)
  where
    go : (p : Bool) → either (not p) (either (odd_pc x) s) ≡ true
    go true = rw h
    go false = refl

even_queue : (x : Cpu) (s : Bool) → prefetch_enabled x ≡ true → odd_pc x ≡ false → s ≡ word_test x s
even_queue x s h o = rw (h, o)

-- the first word: where it is fetched, one word is queued
module _ (m : ℕ) (x : Cpu) (b : Bus) (len n : ℕ) (d : Bool) where
  abbrev first_served : Bool
  first_served = served_of b len (address_of x (pc_of x)) 2

  abbrev First : Bool → World → Type 0
  First e z = Tale x b len n e z × (e ≡ true → prefetch_enabled x ≡ true → odd_pc x ≡ false → one_fetched (cpu_of z) ≡ true)

  first_tale : (w : World) → Tale x b len (suc n) d w → First (both d (word_test x first_served)) (prefetch_first (trigger m) w)
  unfolding prefetch_first first_from kept_first
  first_tale w p = go (prefetch_enabled (cpu_of w)) refl (odd_pc (cpu_of (with_cpu w (clear_prefetch (cpu_of w))))) refl
    where
      y : World
      y = with_cpu w (clear_prefetch (cpu_of w))

      q : Tale x b len (suc n) d y
      q = tale_clear w p

      enabled : (e : Bool) → prefetch_enabled (cpu_of w) ≡ e → d ≡ true → prefetch_enabled x ≡ e
      enabled e h u = sym (scene_enabled (p.scene u)) ∙ h

      odd : (o : Bool) → odd_pc (cpu_of y) ≡ o → d ≡ true → odd_pc x ≡ o
      odd o h u = sym (scene_odd_pc (q.scene u)) ∙ h

      go : (e : Bool) → prefetch_enabled (cpu_of w) ≡ e → (o : Bool) → odd_pc (cpu_of y) ≡ o → First (both d (word_test x first_served)) (pick e (pick o y (kept_first (prefetch_read (trigger m) y (pc_of (cpu_of y))))) w)
      go false h o k = judge_none (λ e. First e w) d (word_test x first_served) (λ e. no_queue x first_served (enabled false h e)) (tale_less (omega arith) p, λ e u v. clash u (enabled false h e))
      go true h true k = judge_none (λ e. First e y) d (word_test x first_served) (λ e. odd_queue x first_served (odd true k e)) (tale_less (omega arith) q, λ e u v. clash (odd true k e) v)
      go true h false k =
          subst (λ (e : Bool). First e (kept_first (prefetch_read (trigger m) y (pc_of (cpu_of y)))))
          (both_named d first_served (word_test x first_served) (λ e. even_queue x first_served (enabled true h e) (odd false k e)))
          (tale_fetch m (λ e z. First e (kept_first z)) y (pc_of (cpu_of y)) (address_of x (pc_of x)) (λ e. ap (λ (a : ℕ). address_of x a) (scene_pc (q.scene e)))
          (λ z v r. (tale_first_word z (v % 0x10000) r, λ e f g. word_queued z (v % 0x10000))) (λ z r. (r, λ e f g. clash {b = false} e refl)) q)

  -- the second word, once one is queued
  abbrev second_served : Bool
  second_served = served_of b len (address_of x ((pc_of x + 2) % 2 ^ 32)) 2

  second_tale : (w : World) → Tale x b len (suc n) d w × (d ≡ true → prefetch_enabled x ≡ true → odd_pc x ≡ false → one_fetched (cpu_of w) ≡ true) → Tale x b len n (both d (word_test x second_served)) (prefetch_second (trigger m) w)
  unfolding prefetch_second second_from kept_second
  second_tale w p = go (prefetch_enabled (cpu_of w)) refl (one_fetched (cpu_of w)) refl (odd_pc (cpu_of w)) refl (is_faulted (cpu_of w)) refl
    where
      Goal : World → Type 0
      Goal z = Tale x b len n (both d (word_test x second_served)) z

      enabled : (e : Bool) → prefetch_enabled (cpu_of w) ≡ e → d ≡ true → prefetch_enabled x ≡ e
      enabled e h u = sym (scene_enabled (p.0.scene u)) ∙ h

      odd : (o : Bool) → odd_pc (cpu_of w) ≡ o → d ≡ true → odd_pc x ≡ o
      odd o h u = sym (scene_odd_pc (p.0.scene u)) ∙ h

      idle : (d ≡ true → word_test x second_served ≡ true) → Goal w
      idle l = judge_none (λ e. Tale x b len n e w) d (word_test x second_served) l (tale_less (omega arith) p.0)

      -- an even PC and a queue, yet no word queued: a test failed before
      none : (o : Bool) → prefetch_enabled (cpu_of w) ≡ true → one_fetched (cpu_of w) ≡ false → odd_pc (cpu_of w) ≡ o → d ≡ true → word_test x second_served ≡ true
      none true h f k e = odd_queue x second_served (odd true k e)
      none false h f k e = clash (p.1 e (enabled true h e) (odd false k e)) f

      go : (e : Bool) → prefetch_enabled (cpu_of w) ≡ e → (f : Bool) → one_fetched (cpu_of w) ≡ f → (o : Bool) → odd_pc (cpu_of w) ≡ o → (r : Bool) → is_faulted (cpu_of w) ≡ r
          → Goal (pick e (pick f (pick o w (pick r w (kept_second (prefetch_read (trigger m) w ((pc_of (cpu_of w) + 2) % 2 ^ 32))))) w) w)
      go false h f i o k r l = idle (λ e. no_queue x second_served (enabled false h e))
      go true h false i o k r l = idle (none o h i k)
      go true h true i true k r l = idle (λ e. odd_queue x second_served (odd true k e))
      go true h true i false k true l = tale_faulted n d (word_test x second_served) w l (tale_less (omega arith) p.0)
      go true h true i false k false l =
          subst (λ (e : Bool). Tale x b len n e (kept_second (prefetch_read (trigger m) w ((pc_of (cpu_of w) + 2) % 2 ^ 32))))
          (both_named d second_served (word_test x second_served) (λ e. even_queue x second_served (enabled true h e) (odd false k e)))
          (tale_fetch m (λ e z. Tale x b len n e (kept_second z)) w ((pc_of (cpu_of w) + 2) % 2 ^ 32) (address_of x ((pc_of x + 2) % 2 ^ 32))
          (λ e. ap (λ (a : ℕ). address_of x ((a + 2) % 2 ^ 32)) (scene_pc (p.0.scene e)))
          (λ z v r. tale_second_word z (v % 0x10000) r) (λ z r. r) p.0)

cycles_fetched : (c : Cpu) (v : ℕ) → one_fetched (internal_cycles c v) ≡ one_fetched c
unfolding internal_cycles set_clocks one_fetched
cycles_fetched c v = go (prefetch_enabled c)
  where
    go : (e : Bool) → one_fetched (pick e (set_clocks c ((clocks_of c + v) % 2 ^ 32)) c) ≡ one_fetched c
    go true = refl
    go false = refl

fetched_cycles : (w : World) (v : ℕ) → one_fetched (cpu_of (with_cpu w (internal_cycles (cpu_of w) v))) ≡ one_fetched (cpu_of w)
unfolding put_cpu
fetched_cycles w v = cycles_fetched (cpu_of w) v

-- the test of the queue: there is none, or PC is odd, or both words are served
abbrev queue_test : Bool → Bool → Bool → Bool → Bool
queue_test e o s t = either (not e) (either o (both s t))

two_words : (d e o s t : Bool) → both (both d (either (not e) (either o s))) (either (not e) (either o t)) ≡ both d (queue_test e o s t)
two_words true true true s t = refl
two_words true true false s t = refl
two_words true false o s t = refl
two_words false e o s t = refl

refill_tale : (m : ℕ) (x : Cpu) (b : Bus) (len n : ℕ) (d : Bool) (w : World) → Tale x b len (suc (suc (suc n))) d w
    → Booked n (both d (queue_test (prefetch_enabled x) (odd_pc x) (served_of b len (address_of x (pc_of x)) 2) (served_of b len (address_of x ((pc_of x + 2) % 2 ^ 32)) 2))) (refill (trigger m) w)
unfolding refill
refill_tale m x b len n d w p =
    let s : Bool = served_of b len (address_of x (pc_of x)) 2 in
    let t : Bool = served_of b len (address_of x ((pc_of x + 2) % 2 ^ 32)) 2 in
    let f = first_tale m x b len (suc (suc n)) d w p in
    let y : World = prefetch_first (trigger m) w in
    let z : World = with_cpu y (internal_cycles (cpu_of y) 2) in
    subst (λ (e : Bool). Booked n e (prefetch_second (trigger m) z)) (two_words d (prefetch_enabled x) (odd_pc x) s t)
    (second_tale m x b len n (both d (word_test x s)) z (tale_cycles y 2 f.0, λ e u v. fetched_cycles y 2 ∙ f.1 e u v)).book

-- ---- the jump

start_turn : (v : ℕ) → Turn (λ c. start_vector c v)
unfolding gist_cpu start_vector is_faulted has_clocks
start_turn v = record { seen = λ c. refl; runs = λ c. refl; waits = λ c. refl }

pc_turn : (v : ℕ) → Turn (λ c. set_pc c v)
unfolding gist_cpu set_pc is_faulted has_clocks
pc_turn v = record { seen = λ c. refl; runs = λ c. refl; waits = λ c. refl }

tale_release : {x : Cpu} {b : Bus} {len n : ℕ} {d : Bool} (w : World) → Tale x b len (suc n) d w → Tale x b len n d (release w)
unfolding release
tale_release w p = tale_note w 7 0 0 (omega arith) p

module _ (x : World) (v : ℕ) where
  abbrev begins : Cpu
  begins = gist_cpu (start_vector (cpu_of x) v)

  begins_address : (a : ℕ) → address_of begins a ≡ address_of (cpu_of x) a
  unfolding gist_cpu start_vector address_of
  begins_address a = refl

  begins_odd : (a : ℕ) → refuses_odd begins a ≡ refuses_odd (cpu_of x) a
  unfolding gist_cpu start_vector refuses_odd checks_alignment
  begins_odd a = refl

  -- the vector's test
  abbrev vector_test : Bool
  vector_test = both (not (refuses_odd (cpu_of x) (vector_place x v))) (served x (vector_place x v) true)

  vector_test_lem : vector_test ≡ both (served_of x.core.bus (length x.store) (vector_place x v) 4) (not (refuses_odd begins (vector_place x v)))
  unfolding served
  vector_test_lem = ap (λ (o : Bool). both (not o) (served x (vector_place x v) true)) (sym (begins_odd (vector_place x v))) ∙ turn (not (refuses_odd begins (vector_place x v))) (served x (vector_place x v) true)
    where
      turn : (a c : Bool) → both a c ≡ both c a
      turn true true = refl
      turn true false = refl
      turn false true = refl
      turn false false = refl

  word_served : (a c : ℕ) → a ≡ c → served_of (jumped x v).core.bus (length (jumped x v).store) (address_of (cpu_of (jumped x v)) a) 2 ≡ served x (address_of (cpu_of x) c) false
  unfolding served
  word_served a c e = jumped_served x v (address_of (cpu_of (jumped x v)) a) false ∙ ap (λ (z : ℕ). served x z false) (jumped_address x v a ∙ ap (λ (z : ℕ). address_of (cpu_of x) z) e)

  -- the queue's test after the jump, by what was there before
  queue_test_lem : queue_test (prefetch_enabled (cpu_of (jumped x v))) (odd_pc (cpu_of (jumped x v))) (served_of (jumped x v).core.bus (length (jumped x v).store) (address_of (cpu_of (jumped x v)) (pc_of (cpu_of (jumped x v)))) 2)
      (served_of (jumped x v).core.bus (length (jumped x v).store) (address_of (cpu_of (jumped x v)) ((pc_of (cpu_of (jumped x v)) + 2) % 2 ^ 32)) 2)
      ≡ queue_test (prefetch_enabled (cpu_of x)) (eqb (handler x v % 2) 1) (served x (address_of (cpu_of x) (handler x v)) false) (served x (address_of (cpu_of x) ((handler x v + 2) % 2 ^ 32)) false)
  queue_test_lem =
      by (jumped_enabled x v) (jumped_odd x v) (word_served (pc_of (cpu_of (jumped x v))) (handler x v) (jumped_pc x v))
      (word_served ((pc_of (cpu_of (jumped x v)) + 2) % 2 ^ 32) ((handler x v + 2) % 2 ^ 32) (ap (λ (z : ℕ). (z + 2) % 2 ^ 32) (jumped_pc x v)))
    where
      by : {e f o p s t i j : Bool} → e ≡ f → o ≡ p → s ≡ t → i ≡ j → queue_test e o s i ≡ queue_test f p t j
      by a c g h = cc

both_all : (d a c q : Bool) → both (both d (both a c)) q ≡ both d (both a (both c q))
both_all d a c q = both_both d (both a c) q ∙ ap (λ (z : Bool). both d z) (both_both a c q)

-- the jump from a world whose gist is x as long as no test failed
pub jump_tale : (m : ℕ) (w x : World) (v n : ℕ) (d : Bool) → (d ≡ true → gist w ≡ x) → Booked (5 + n) d w → Booked n (both d (reach_test x v)) (jump_vector (trigger m) w v)
unfolding jump_vector jump_to vector_read reach_test
jump_tale m w x v n d e p =
    let y : World = with_cpu (release w) (start_vector (cpu_of (release w)) v) in
    let a : ℕ = vector_address (cpu_of (release w)) v in
    let g : ℕ = vector_place x v in
    let h : Bool = both d (vector_test x v) in
    let u : Attempt = read_at (trigger m) y a true in
    let z : World = landed (trigger m) w v in
    let q : Tale (begins x v) x.core.bus (length x.store) (suc (suc (suc (suc n)))) d y = tale_turn (release w) (λ c. start_vector c v) (start_turn v) (tale_release w (tale_less (omega arith) (gist_tale w x (5 + n) d e p))) in
    let r : Booked (suc (suc (suc n))) h u.after = (tale_read m y a g true (vector_test x v)
    (λ i. begins_address x v a ∙ ap (λ (j : ℕ). address_of (cpu_of x) j) (vector_gist w v ∙ ap (λ (j : World). vector_address (cpu_of j) v) (e i))) (vector_test_lem x v) q).book in
    let s : Booked (suc (suc (suc n))) h z = book_turn u.after (λ c. set_pc c u.value) (pc_turn u.value) r in
    subst (λ (b : Bool). Booked n b (refill (trigger m) z))
    (ap (λ (b : Bool). both h b) (queue_test_lem x v) ∙ both_all d (not (refuses_odd (cpu_of x) g)) (served x g true) (queue_test (prefetch_enabled (cpu_of x)) (eqb (handler x v % 2) 1) (served x (address_of (cpu_of x) (handler x v)) false) (served x (address_of (cpu_of x) ((handler x v + 2) % 2 ^ 32)) false)))
    (refill_tale m (cpu_of (jumped x v)) (jumped x v).core.bus (length (jumped x v).store) n h z (gist_tale z (jumped x v) (suc (suc (suc n))) h lands s))
  where
    lands : both d (vector_test x v) ≡ true → gist (landed (trigger m) w v) ≡ jumped x v
    lands i =
        let j = both_of d (vector_test x v) i in
        let k = both_of (not (refuses_odd (cpu_of x) (vector_place x v))) (served x (vector_place x v) true) j.1 in
        land_form (trigger m) w x v (e j.0) (ap (λ (o : World). is_faulted (cpu_of o)) (sym (e j.0)) ∙ faulted_gist w ∙ p.runs j.0) (not_of (refuses_odd (cpu_of x) (vector_place x v)) k.0) k.1
