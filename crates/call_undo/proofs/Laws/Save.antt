-- What is put back is what was saved: after a refusal state and context are as before. Assumes nothing.
use Prim.Native.Nat.{ℕ, zero, suc, ◌+◌, ◌-◌, ◌*◌, ◌≤◌, ◌<◌}
use Rattle.std.proofs.Common.{arith, ap, ap₂, ◌∙◌, inl, inr, length-set, get_or-set_same, get_or-set_other}
use Rattle.std.specs.Prelude.{◌≡◌, refl, ◌⊎◌, get_or, set}
use Rattle.std.proofs.Math.Path.{sym}
use Rattle.std.proofs.Math.Logic.{⊎_elim}
use mathlib.Core.List.{List, []}
use Rattle.std.proofs.Math.ListN.{length}
use Rattle.std.proofs.Math.Seq.{ext_get_or}
use Rattle.base_tests.proofs.Laws.Order.{lt_or_ge}
use Rattle.lent_copies.specs.Copies.{copied, copied_or}
use Rattle.lent_copies.proofs.Laws.Copy.{copied_length}
use Rattle.lent_layout.specs.declared.Numbered.{Numbered}
use Rattle.lent_layout.specs.Context.{ContextWords, unused}
use Rattle.lent_world.proofs.Laws.LentLawful.{KeptFrom}
use Rattle.call_undo.specs.declared.Lengths.{Lengths}
use Rattle.call_undo.specs.Saves.{saved_state, links_from, keys_from, key_order_from, effect_order_from, saved_words, saved_context, forgotten, withdrawn, restored_context, used}

-- ---- what a copy holds

-- what lies outside of the run that is written stays
pub copied_outside : {A : Type 0} (o : A) (c : List A) (start at n : ℕ) (ws : List A) (k : ℕ) → (k < at) ⊎ (at + n ≤ k) → get_or (copied_or o c start at n ws) k o ≡ get_or ws k o
unfolding copied_or
copied_outside o c start at zero ws k p = refl
copied_outside o c start at (suc n) ws k p =
    copied_outside o c (suc start) (suc at) n (set ws at (get_or c start o)) k (⊎_elim {C = (k < suc at) ⊎ (suc at + n ≤ k)} (λ l. inl (omega arith)) (λ l. inr (omega arith)) p)
    ∙ get_or-set_other ws at k (get_or c start o) o (λ e. ⊎_elim {C = ⊥} (λ l. omega arith) (λ l. omega arith) p)

-- what lies in the run is what was copied
pub copied_inside_is : {A : Type 0} (o : A) (c : List A) (start at n : ℕ) (ws : List A) (j : ℕ) → j < n → at + j < length ws → get_or (copied_or o c start at n ws) (at + j) o ≡ get_or c (start + j) o
unfolding copied_or
copied_inside_is o c start at zero ws j l h = absurd (omega arith)
copied_inside_is o c start at (suc n) ws zero l h =
    let z : at + 0 ≡ at = omega arith in
    let y : start ≡ start + 0 = omega arith in
    ap (λ (k : ℕ). get_or (copied_or o c (suc start) (suc at) n (set ws at (get_or c start o))) k o) z
    ∙ copied_outside o c (suc start) (suc at) n (set ws at (get_or c start o)) at (inl (omega arith))
    ∙ get_or-set_same ws at (get_or c start o) o (omega arith)
    ∙ ap (λ (k : ℕ). get_or c k o) y
copied_inside_is o c start at (suc n) ws (suc j) l h =
    let z : at + suc j ≡ suc at + j = omega arith in
    let y : suc start + j ≡ start + suc j = omega arith in
    let e : length (set ws at (get_or c start o)) ≡ length ws = length-set ws at (get_or c start o) in
    ap (λ (k : ℕ). get_or (copied_or o c (suc start) (suc at) n (set ws at (get_or c start o))) k o) z
    ∙ copied_inside_is o c (suc start) (suc at) n (set ws at (get_or c start o)) j (omega arith) (omega arith)
    ∙ ap (λ (k : ℕ). get_or c k o) y

-- the same, by its place in the list
copied_at : {A : Type 0} (o : A) (c : List A) (start at n : ℕ) (ws : List A) (k m : ℕ) → at ≤ k → k < at + n → k < length ws → m ≡ start + (k - at) → get_or (copied_or o c start at n ws) k o ≡ get_or c m o
copied_at o c start at n ws k m a b l e =
    let z : k ≡ at + (k - at) = omega arith in
    ap (λ (x : ℕ). get_or (copied_or o c start at n ws) x o) z
    ∙ copied_inside_is o c start at n ws (k - at) (omega arith) (omega arith)
    ∙ ap (λ (x : ℕ). get_or c x o) (sym e)

-- ---- the loop over effects that go

-- no effect goes
pub forgets_none : (es : List ℕ) (from to : ℕ) → to ≤ from → es ≡ forgotten from to es
unfolding forgotten copied_or
forgets_none es from to l =
    let z : 0 ≡ (to - from) * 98 = omega arith in
    ap (λ (n : ℕ). copied [] 0 (from * 98) n es) z

-- one more word becomes zero
pub forgets_more : (c d : List ℕ) (at n k : ℕ) → k < n → d ≡ set c (at + k) 0 → copied [] k (at + k) (n - k) c ≡ copied [] (k + 1) (at + (k + 1)) (n - (k + 1)) d
unfolding copied_or
forgets_more c d at n k l e =
    let m : n - k ≡ suc (n - (k + 1)) = omega arith in
    let s : suc k ≡ k + 1 = omega arith in
    let t : suc (at + k) ≡ at + (k + 1) = omega arith in
    ap (λ (y : ℕ). copied [] k (at + k) y c) m
    ∙ ap₂ (λ (y z : ℕ). copied [] y z (n - (k + 1)) (set c (at + k) 0)) s t
    ∙ ap (copied [] (k + 1) (at + (k + 1)) (n - (k + 1))) (sym e)

-- all of them are zero
-- the loop's end is the whole
pub forgets_end : (c d : List ℕ) (from to at n k : ℕ) → at ≡ from * 98 → n ≡ (to - from) * 98 → n ≤ k → copied [] 0 (at + 0) (n - 0) c ≡ copied [] k (at + k) (n - k) d → d ≡ forgotten from to c
unfolding copied_or forgotten
forgets_end c d from to at n k a b h e =
    let m : n - k ≡ 0 = omega arith in
    let x : at + 0 ≡ from * 98 = omega arith in
    let y : n - 0 ≡ (to - from) * 98 = omega arith in
    sym (e ∙ ap (λ (z : ℕ). copied [] k (at + k) z d) m) ∙ ap₂ (λ (u v : ℕ). copied [] 0 u v c) x y

-- no diagnostic goes
pub withdraws_none : (ds : List Numbered) (from to : ℕ) → to ≤ from → ds ≡ withdrawn from to ds
unfolding withdrawn copied_or
withdraws_none ds from to l =
    let z : 0 ≡ to - from = omega arith in
    ap (λ (n : ℕ). copied_or unused [] 0 from n ds) z

-- ---- a table put back

-- one that was saved whole returns
table_restored : (t d s : List ℕ) (from n : ℕ) → length t ≡ n → length d ≡ n → ((j m : ℕ) → j < n → m ≡ from + j → get_or s m 0 ≡ get_or t j 0) → copied s from 0 n d ≡ t
table_restored t d s from n ht hd h =
    ext_get_or 0 (copied s from 0 n d) t (copied_length 0 s from 0 n d ∙ hd ∙ sym ht)
    (λ k l. let e : length (copied s from 0 n d) ≡ length d = copied_length 0 s from 0 n d in
    copied_at 0 s from 0 n d k (from + k) (omega arith) (omega arith) (omega arith) (omega arith) ∙ h k (from + k) (omega arith) refl)

-- one to which was only appended is cut where it ended
-- of ys, made of xs: what stood before m stays, and from m on was nothing
cut_back : {A : Type 0} (o : A) (xs ys : List A) (m n d : ℕ) → d ≡ n - m → m ≤ n → length ys ≡ length xs → ((k : ℕ) → k < m → get_or ys k o ≡ get_or xs k o) → ((k : ℕ) → n ≤ k → get_or ys k o ≡ get_or xs k o) → ((k : ℕ) → m ≤ k → get_or xs k o ≡ o)
    → copied_or o [] 0 m d ys ≡ xs
cut_back {A} o xs ys m n d e g long fixed after none = ext_get_or o (copied_or o [] 0 m d ys) xs (same ∙ long) (λ k l. ⊎_elim (stayed k) (λ h. ⊎_elim (appended k h l) (past k) (lt_or_ge k n)) (lt_or_ge k m))
  where
    same : length (copied_or o [] 0 m d ys) ≡ length ys
    same = copied_length o [] 0 m d ys

    stayed : (k : ℕ) → k < m → get_or (copied_or o [] 0 m d ys) k o ≡ get_or xs k o
    stayed k h = copied_outside o [] 0 m d ys k (inl h) ∙ fixed k h

    appended : (k : ℕ) → m ≤ k → k < length (copied_or o [] 0 m d ys) → k < n → get_or (copied_or o [] 0 m d ys) k o ≡ get_or xs k o
    appended k h l p = let z = same in copied_at o [] 0 m d ys k (k - m) h (omega arith) (omega arith) (omega arith) ∙ sym (none k h)

    past : (k : ℕ) → n ≤ k → get_or (copied_or o [] 0 m d ys) k o ≡ get_or xs k o
    past k h = copied_outside o [] 0 m d ys k (inr (omega arith)) ∙ after k h

-- ---- a state put back

-- what was saved of a state, of which the lists have the right lengths
module _ (vs ss : List ℕ) (n : ℕ) (ws : List ℕ) (hv : length vs ≡ 1024) (hs : length ss ≡ n) (hw : length ws ≡ 1024 + n) where
  -- values return
  pub values_restored : (us : List ℕ) → length us ≡ 1024 → copied (saved_state vs ss n ws) 0 0 1024 us ≡ vs
  unfolding saved_state
  values_restored us hu =
      table_restored vs us (copied ss 0 1024 n (copied vs 0 0 1024 ws)) 0 1024 hv hu
      (λ j m l e. copied_outside 0 ss 0 1024 n (copied vs 0 0 1024 ws) m (inl (omega arith)) ∙ copied_at 0 vs 0 0 1024 ws m j (omega arith) (omega arith) (omega arith) (omega arith))

  -- sets return
  pub sets_restored : (us : List ℕ) → length us ≡ n → copied (saved_state vs ss n ws) 1024 0 n us ≡ ss
  unfolding saved_state
  sets_restored us hu =
      table_restored ss us (copied ss 0 1024 n (copied vs 0 0 1024 ws)) 1024 n hs hu
      (λ j m l e. let f : length (copied vs 0 0 1024 ws) ≡ length ws = copied_length 0 vs 0 0 1024 ws in
      copied_at 0 ss 0 1024 n (copied vs 0 0 1024 ws) m j (omega arith) (omega arith) (omega arith) (omega arith))

-- ---- a context put back

-- the lengths of what is saved are those of a context's tables
pub record Whole (l : Lengths) (c : ContextWords) : Type 0 where
  pub contexts : length c.contexts ≡ l.contexts
  pub links : length c.links ≡ l.links
  pub keys : length c.keys ≡ l.keys
  pub key_order : length c.key_order ≡ l.key_order
  pub effect_order : length c.effect_order ≡ l.effect_order

-- what was saved of a context, table by table
module _ (l : Lengths) (c : ContextWords) (ws : List ℕ) (hw : length ws ≡ saved_words l) where
  -- contexts
  abbrev s1 : List ℕ
  s1 = copied c.contexts 0 0 l.contexts ws

  long1 : length s1 ≡ saved_words l
  long1 = copied_length 0 c.contexts 0 0 l.contexts ws ∙ hw

  -- links
  abbrev s2 : List ℕ
  s2 = copied c.links 0 (links_from l) l.links s1

  long2 : length s2 ≡ saved_words l
  long2 = copied_length 0 c.links 0 (links_from l) l.links s1 ∙ long1

  -- keys
  abbrev s3 : List ℕ
  s3 = copied c.keys 0 (keys_from l) l.keys s2

  long3 : length s3 ≡ saved_words l
  long3 = copied_length 0 c.keys 0 (keys_from l) l.keys s2 ∙ long2

  -- key order
  abbrev s4 : List ℕ
  s4 = copied c.key_order 0 (key_order_from l) l.key_order s3

  long4 : length s4 ≡ saved_words l
  long4 = copied_length 0 c.key_order 0 (key_order_from l) l.key_order s3 ∙ long3

  -- effect order
  abbrev s5 : List ℕ
  s5 = copied c.effect_order 0 (effect_order_from l) l.effect_order s4

  long5 : length s5 ≡ saved_words l
  long5 = copied_length 0 c.effect_order 0 (effect_order_from l) l.effect_order s4 ∙ long4

  -- words of contexts
  contexts_saved : (j m : ℕ) → j < l.contexts → m ≡ 0 + j → get_or (saved_context l c ws) m 0 ≡ get_or c.contexts j 0
  unfolding saved_context
  contexts_saved j m h e =
      copied_outside 0 c.effect_order 0 (effect_order_from l) l.effect_order s4 m (inl (omega arith))
      ∙ copied_outside 0 c.key_order 0 (key_order_from l) l.key_order s3 m (inl (omega arith))
      ∙ copied_outside 0 c.keys 0 (keys_from l) l.keys s2 m (inl (omega arith))
      ∙ copied_outside 0 c.links 0 (links_from l) l.links s1 m (inl (omega arith))
      ∙ copied_at 0 c.contexts 0 0 l.contexts ws m j (omega arith) (omega arith) (omega arith) (omega arith)

  -- words of links
  links_saved : (j m : ℕ) → j < l.links → m ≡ links_from l + j → get_or (saved_context l c ws) m 0 ≡ get_or c.links j 0
  unfolding saved_context
  links_saved j m h e =
      copied_outside 0 c.effect_order 0 (effect_order_from l) l.effect_order s4 m (inl (omega arith))
      ∙ copied_outside 0 c.key_order 0 (key_order_from l) l.key_order s3 m (inl (omega arith))
      ∙ copied_outside 0 c.keys 0 (keys_from l) l.keys s2 m (inl (omega arith))
      ∙ copied_at 0 c.links 0 (links_from l) l.links s1 m j (omega arith) (omega arith) (let z = long1 in omega arith) (omega arith)

  -- words of keys
  keys_saved : (j m : ℕ) → j < l.keys → m ≡ keys_from l + j → get_or (saved_context l c ws) m 0 ≡ get_or c.keys j 0
  unfolding saved_context
  keys_saved j m h e =
      copied_outside 0 c.effect_order 0 (effect_order_from l) l.effect_order s4 m (inl (omega arith))
      ∙ copied_outside 0 c.key_order 0 (key_order_from l) l.key_order s3 m (inl (omega arith))
      ∙ copied_at 0 c.keys 0 (keys_from l) l.keys s2 m j (omega arith) (omega arith) (let z = long2 in omega arith) (omega arith)

  -- words of key order
  key_order_saved : (j m : ℕ) → j < l.key_order → m ≡ key_order_from l + j → get_or (saved_context l c ws) m 0 ≡ get_or c.key_order j 0
  unfolding saved_context
  key_order_saved j m h e =
      copied_outside 0 c.effect_order 0 (effect_order_from l) l.effect_order s4 m (inl (omega arith))
      ∙ copied_at 0 c.key_order 0 (key_order_from l) l.key_order s3 m j (omega arith) (omega arith) (let z = long3 in omega arith) (omega arith)

  -- words of effect order
  effect_order_saved : (j m : ℕ) → j < l.effect_order → m ≡ effect_order_from l + j → get_or (saved_context l c ws) m 0 ≡ get_or c.effect_order j 0
  unfolding saved_context
  effect_order_saved j m h e =
      copied_at 0 c.effect_order 0 (effect_order_from l) l.effect_order s4 m j (omega arith) (omega arith) (let z = long4 in omega arith) (omega arith)

-- an instruction made c of a context c₀, in which nothing stood after the last interned effect and the last diagnostic
module _ (l : Lengths) (c₀ c : ContextWords) (ws : List ℕ) (hw : length ws ≡ saved_words l) (whole : Whole l c₀) (kept : KeptFrom c₀ c)
    (effects_after : (k : ℕ) → c₀.effect_count * 98 ≤ k → get_or c₀.effects k 0 ≡ 0) (diagnostics_after : (k : ℕ) → c₀.diagnostic_count ≤ k → get_or c₀.diagnostics k unused ≡ unused) where
  -- what was saved
  abbrev saved : List ℕ
  saved = saved_context l c₀ ws

  contexts_back : copied saved 0 0 l.contexts c.contexts ≡ c₀.contexts
  contexts_back = table_restored c₀.contexts c.contexts saved 0 l.contexts whole.contexts (kept.contexts ∙ whole.contexts) (contexts_saved l c₀ ws hw)

  links_back : copied saved (links_from l) 0 l.links c.links ≡ c₀.links
  links_back = table_restored c₀.links c.links saved (links_from l) l.links whole.links (kept.links ∙ whole.links) (links_saved l c₀ ws hw)

  keys_back : copied saved (keys_from l) 0 l.keys c.keys ≡ c₀.keys
  keys_back = table_restored c₀.keys c.keys saved (keys_from l) l.keys whole.keys (kept.keys ∙ whole.keys) (keys_saved l c₀ ws hw)

  key_order_back : copied saved (key_order_from l) 0 l.key_order c.key_order ≡ c₀.key_order
  key_order_back = table_restored c₀.key_order c.key_order saved (key_order_from l) l.key_order whole.key_order (kept.key_order ∙ whole.key_order) (key_order_saved l c₀ ws hw)

  effect_order_back : copied saved (effect_order_from l) 0 l.effect_order c.effect_order ≡ c₀.effect_order
  effect_order_back = table_restored c₀.effect_order c.effect_order saved (effect_order_from l) l.effect_order whole.effect_order (kept.effect_order ∙ whole.effect_order) (effect_order_saved l c₀ ws hw)

  effects_back : forgotten c₀.effect_count c.effect_count c.effects ≡ c₀.effects
  unfolding forgotten
  effects_back =
      let g = kept.effects.grown in
      cut_back 0 c₀.effects c.effects (c₀.effect_count * 98) (c.effect_count * 98) ((c.effect_count - c₀.effect_count) * 98) (omega arith) (omega arith) kept.effects.long kept.effects.fixed kept.effects.after effects_after

  diagnostics_back : withdrawn c₀.diagnostic_count c.diagnostic_count c.diagnostics ≡ c₀.diagnostics
  unfolding withdrawn
  diagnostics_back =
      cut_back unused c₀.diagnostics c.diagnostics c₀.diagnostic_count c.diagnostic_count (c.diagnostic_count - c₀.diagnostic_count) refl (let g = kept.diagnostics.grown in g) kept.diagnostics.long
      (λ k h. kept.diagnostics.fixed k (omega arith))
      (λ k h. kept.diagnostics.after k (omega arith)) diagnostics_after

  -- all tables
  pub context_restored : restored_context l (used c₀) saved c ≡ c₀
  unfolding restored_context
  context_restored = λ j. record {
    options = kept.options j;
    function_count = kept.function_count j;
    effect_count = c₀.effect_count;
    key_count = c₀.key_count;
    diagnostic_count = c₀.diagnostic_count;
    identifiers = kept.identifiers j;
    functions = kept.functions j;
    contexts = contexts_back j;
    links = links_back j;
    keys = keys_back j;
    key_order = key_order_back j;
    effects = effects_back j;
    effect_order = effect_order_back j;
    diagnostics = diagnostics_back j;
  }
