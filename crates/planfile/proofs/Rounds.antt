-- A written file, part by part.
use Rattle.std.proofs.Common.{◌≡◌, ◌==◌, ℕ, zero, suc, ◌+◌, ◌-◌, ◌*◌, ◌%◌, ◌<◌, ◌≤◌, ltb, List, [], ◌∷◌, ◌++◌, length, get_or, take, drop, IfSome, Some, None, unwrap_or, Ok, Err, vec_items, Option, Result, sym, refl, ap, ◌∙◌, subst, arith, MatchOption}
use Rattle.std.proofs.lemmas.Nat.{mul-le}
use Rattle.std.proofs.lemmas.List.{take_at, take_all, drop_at, drop-drop, length-map, get_or-drop}
use Rattle.std.proofs.lemmas.Bool.{cond_both, cond-false, cond-true, eq-eqb, le-ltb, lt-leb, ltb-true, ne_eqb}
use Rattle.fabric.proofs.Cables.{linked_channels}
use Rattle.fabric.specs.Channels.{Inside, starts}
use Rattle.fabric.specs.Of.{net}
use Rattle.fabric.specs.declared.network.Fabric.{Fabric}
use Rattle.model.specs.Cabling.{cabling_refusal, link_refusal}
use Rattle.model.specs.Net.{Channel, Net, channels_of, count, is_pair}
use Rattle.model.specs.Refusals.{Refusal}
use Rattle.model.specs.Rules.{Rule, channel_byte, table_rule}
use Rattle.routing.specs.Tables.{rule_of}
use Rattle.planfile.specs.Decodes.{Decodes}
use Rattle.planfile.specs.Faults.{file_refusal}
use Rattle.planfile.specs.File.{file_bytes, hop_byte, hops_body, lane_body, link_body, rows}
use Rattle.planfile.specs.Refused.{PlanFile, Plain, Refused, form, tag, link, cabling, hops, lane, hops_diagonal, lane_diagonal, hops_from, hops_in, ends_in, lane_count_in, lane_from, lanes_in, length_at, tag_at, tag_of}
use Rattle.planfile.specs.Round.{Back, Same}
use Rattle.planfile.specs.Writes.{Named}
use Rattle.planfile.specs.declared.fault.FileFault.{FileFault}
use Rattle.planfile.specs.declared.plan.Plan.{Plan}
use Rattle.planfile.proofs.Fronts.{length_file}
use Rattle.planfile.proofs.Rows.{length_rows, rows_at}

-- nothing refuses the cabling of a fabric
links_pass : (n i : ℕ) (ends : List ℕ) → Inside n (channels_of ends) → link_refusal n i ends ≡ None
links_pass n i [] h = refl
links_pass n i (a ∷ []) h = refl
links_pass n i (a ∷ (b ∷ ends)) h =
    let s = h 0 (omega arith) in
    simp (lt-leb n a s.0, lt-leb n b s.1, ne_eqb a b s.2, links_pass n (i + 1) ends (λ c l. h (suc (suc c)) (omega arith)))

channels_paired : (ends : List ℕ) → length (channels_of ends) % 2 ≡ 0
channels_paired [] = refl
channels_paired (a ∷ []) = refl
channels_paired (a ∷ (b ∷ ends)) = omega (arith, channels_paired ends)

pub ends_paired : (f : Fabric) → length (starts (net f).channels) % 2 ≡ 0
ends_paired f =
    let cs : List Channel = (net f).channels in
    omega (arith, channels_paired (starts cs), ap length (linked_channels cs f.linked), length-map cs (λ (c : Channel). c.start))

pub fabric_passes : (f : Fabric) → cabling_refusal (net f).switches (starts (net f).channels) ≡ None
fabric_passes f =
    let cs : List Channel = (net f).channels in
    let ends : List ℕ = starts cs in
    let n : ℕ = (net f).switches in
    let s = f.sizes in
    let l : length ends ≡ length cs = length-map cs (λ (c : Channel). c.start) in
    let v = length-map (vec_items f.channels) Rattle.fabric.specs.Channels.plain in
    let e = ends_paired f in
    let i : Inside n (channels_of ends) = subst (λ (z : List Channel). Inside n z) (sym (linked_channels cs f.linked)) f.inside in
    simp (le-ltb n 2 s.0, le-ltb 32 n s.1, ne_eqb (length ends % 2) 1 (λ q. omega arith), ne_eqb (length ends) 0 (λ q. omega arith), le-ltb 128 (length ends) (omega arith), links_pass n 0 ends i)

module _ (net' : Net) (m : ℕ) (rule : Rule) where
  abbrev F : List ℕ
  F = file_bytes net' m rule

  starts_long : length (starts net'.channels) ≡ count net'
  starts_long = length-map net'.channels (λ (x : Channel). x.start)

  hops_size : length (hops_body net' rule) ≡ net'.switches * net'.switches
  hops_size = length_rows net'.switches (hop_byte rule)

  rows_size : length (rows net'.switches rule.lane) ≡ net'.switches * net'.switches
  rows_size = length_rows net'.switches rule.lane

  long_link : length_at F 0 ≡ 1 + count net'
  long_link = omega (arith, starts_long)

  long_hops : length_at F 1 ≡ net'.switches * net'.switches
  long_hops = omega (arith, hops_size)

  long_lane : length_at F 2 ≡ 1 + net'.switches * net'.switches
  long_lane = omega (arith, rows_size)

  pub ends_are : ends_in F ≡ starts net'.channels
  ends_are = take_at (starts net'.channels) (hops_body net' rule ++ lane_body net' m rule) (length_at F 0 - 1) (omega (arith, starts_long, long_link))

  after_link : drop (hops_from F) F ≡ hops_body net' rule ++ lane_body net' m rule
  after_link =
      sym (drop-drop (length_at F 0) 25 F)
      ∙ drop_at (link_body net') (hops_body net' rule ++ lane_body net' m rule) (length_at F 0) (omega (arith, starts_long, long_link))

  after_hops : drop (lane_from F) F ≡ lane_body net' m rule
  after_hops =
      sym (drop-drop (length_at F 1) (25 + length_at F 0) F) ∙ ap (λ (z : List ℕ). drop (length_at F 1) z) after_link
      ∙ drop_at (hops_body net' rule) (lane_body net' m rule) (length_at F 1) (hops_size ∙ sym long_hops)

  pub hops_are : hops_in F ≡ hops_body net' rule
  hops_are =
      ap (λ (z : List ℕ). take (net'.switches * net'.switches) z) after_link
      ∙ take_at (hops_body net' rule) (lane_body net' m rule) (net'.switches * net'.switches) hops_size

  pub count_is : lane_count_in F ≡ m
  count_is =
      let e : lane_from F ≡ lane_from F + 0 = omega arith in
      ap (λ (z : ℕ). get_or F z 0) e ∙ sym (get_or-drop (lane_from F) F 0 0) ∙ ap (λ (z : List ℕ). get_or z 0 0) after_hops

  pub lanes_are : lanes_in F ≡ rows net'.switches rule.lane
  lanes_are =
      ap (λ (z : List ℕ). take (net'.switches * net'.switches) z) (sym (drop-drop 1 (lane_from F) F) ∙ ap (λ (z : List ℕ). drop 1 z) after_hops)
      ∙ take_all (net'.switches * net'.switches) (rows net'.switches rule.lane) (omega (arith, rows_size))

  tags_are : (e : ℕ) → e < 3 → tag_at F e ≡ tag_of e
  tags_are zero h = refl
  tags_are (suc zero) h = refl
  tags_are (suc (suc zero)) h = refl
  tags_are (suc (suc (suc e))) h = absurd (omega arith)

  plain_rows : (f : ℕ → ℕ → ℕ) → Plain net'.switches (rows net'.switches f) net'.switches
  plain_rows f i h = rows_at net'.switches f i i h h ∙ cond-true _ _ _ (eq-eqb i i refl)

  -- it passes every test, if its cabling does
  pub fits : 2 ≤ net'.switches → net'.switches ≤ 32 → 1 ≤ count net' → count net' ≤ 128 → count net' % 2 ≡ 0
      → cabling_refusal net'.switches (starts net'.channels) ≡ None → PlanFile F
  fits least most some few even pass =
      let q : net'.switches * net'.switches ≤ 32 * 32 = mul-le net'.switches net'.switches 32 32 most most in
      let l = length_file net' m rule in
      let a = long_link in
      let b = long_hops in
      let c = long_lane in
      record {
        placed =
            record {
              cabled =
                  record {
                    opened = record { formed = record { long = omega arith; short = omega arith; edition = refl; whole = omega arith }; tagged = tags_are };
                    placed = record { from = refl; least = omega arith; most = omega arith; odd = omega arith };
                    sound = ap (λ (z : List ℕ). cabling_refusal net'.switches z) ends_are ∙ pass;
                  };
              hops = record { from = omega (arith, starts_long); size = b };
              lane = record { from = omega (arith, starts_long, hops_size); size = c };
            };
        hops = subst (λ (z : List ℕ). Plain net'.switches z net'.switches) (sym hops_are) (plain_rows (hop_byte rule));
        lanes = subst (λ (z : List ℕ). Plain net'.switches z net'.switches) (sym lanes_are) (plain_rows rule.lane);
      }

-- the file of a fabric is a plan file
pub fabric_file : (f : Fabric) (m : ℕ) (rule : Rule) → PlanFile (file_bytes (net f) m rule)
fabric_file f m rule =
    let s = f.sizes in
    let v = length-map (vec_items f.channels) Rattle.fabric.specs.Channels.plain in
    let l = length-map (net f).channels (λ (c : Channel). c.start) in
    let e = ends_paired f in
    fits (net f) m rule s.0 s.1 (omega arith) (omega arith) (omega arith) (fabric_passes f)

-- a plan file is not refused
pub unrefused : (bs : List ℕ) (r : Refusal) → PlanFile bs → Refused bs r → ⊥
unrefused bs r p (form h) = h p.placed.cabled.opened.formed
unrefused bs r p (tag e f l t h) = h (p.placed.cabled.opened.tagged e l)
unrefused bs r p (link o h) = h p.placed.cabled.placed
unrefused bs r p (cabling x o l h) =
    let s = p.placed.cabled.sound in
    let z : ◌≡◌ {A = ℕ} 0 1 = cc in omega arith
unrefused bs r p (hops c h) = h p.placed.hops
unrefused bs r p (lane c l h) = h p.placed.lane
unrefused bs r p (hops_diagonal i l h) = h.here (p.hops i h.there)
unrefused bs r p (lane_diagonal i l a h) = h.here (p.lanes i h.there)

-- a byte tells the channel
byte_same : (o p : Option ℕ) → IfSome o (λ c. c < 255) → IfSome p (λ c. c < 255) → unwrap_or o 255 ≡ unwrap_or p 255 → o ≡ p
byte_same None None a b e = refl
byte_same None (Some y) a b e = absurd (omega (arith, b))
byte_same (Some x) None a b e = absurd (omega (arith, a))
byte_same (Some x) (Some y) a b e = ap (λ (z : ℕ). Some z) e

-- a table answers channels below 255
table_named : (k n : ℕ) (xs ys : List ℕ) → Named k (table_rule n xs ys)
table_named k n xs ys u d hu hd ne =
    let x : ℕ = get_or xs (u * n + d) 255 in
    let P : Option ℕ → Type 0 = λ o. IfSome o (λ c. c < 255) in
    cond_both (is_pair n u d) (channel_byte x) None P (λ _. cond_both (ltb x 255) (Some x) None P (λ e. ltb-true x 255 e) (λ _. tt)) (λ _. tt)

-- equal tables have equal cells
cells_same : (n n' : ℕ) (f f' : ℕ → ℕ → ℕ) → n ≡ n' → rows n f ≡ rows n' f' → (u d : ℕ) → u < n → d < n → (u ≡ d → ⊥) → f u d ≡ f' u d
cells_same n n' f f' en e u d hu hd ne =
    let at = rows_at n f u d hu hd in
    let at' = rows_at n' f' u d (omega arith) (omega arith) in
    let here = cond-false (u == d) 255 (f u d) (ne_eqb u d ne) in
    let here' = cond-false (u == d) 255 (f' u d) (ne_eqb u d ne) in
    cc

-- two plans of one file are the same
pub same_file : (f f' : Fabric) (m m' : ℕ) (rule rule' : Rule) → Named (net f).switches rule → Named (net f).switches rule'
    → file_bytes (net f) m rule ≡ file_bytes (net f') m' rule' → Same (net f) m rule (net f') m' rule'
same_file f f' m m' rule rule' nm nm' e =
    let en : (net f).switches ≡ (net f').switches = ap (λ (z : List ℕ). get_or z 25 0) e in
    let es : starts (net f).channels ≡ starts (net f').channels =
    sym (ends_are (net f) m rule) ∙ ap (λ (z : List ℕ). ends_in z) e ∙ ends_are (net f') m' rule' in
    let ec : (net f).channels ≡ (net f').channels =
    sym (linked_channels (net f).channels f.linked) ∙ ap (λ (z : List ℕ). channels_of z) es ∙ linked_channels (net f').channels f'.linked in
    let eh : hops_body (net f) rule ≡ hops_body (net f') rule' =
    sym (hops_are (net f) m rule) ∙ ap (λ (z : List ℕ). hops_in z) e ∙ hops_are (net f') m' rule' in
    let er : rows (net f).switches rule.lane ≡ rows (net f').switches rule'.lane =
    sym (lanes_are (net f) m rule) ∙ ap (λ (z : List ℕ). lanes_in z) e ∙ lanes_are (net f') m' rule' in
    record {
      fabric =
          ap (λ (z : ℕ). record { switches = z; channels = (net f).channels }) en
          ∙ ap (λ (z : List Channel). record { switches = (net f').switches; channels = z }) ec;
      lanes = sym (count_is (net f) m rule) ∙ ap (λ (z : List ℕ). lane_count_in z) e ∙ count_is (net f') m' rule';
      hops =
          λ u d hu hd ne. byte_same (rule.next u d) (rule'.next u d) (nm u d hu hd ne) (nm' u d hu hd ne)
          (cells_same (net f).switches (net f').switches (hop_byte rule) (hop_byte rule') en eh u d hu hd ne);
      rows = cells_same (net f).switches (net f').switches rule.lane rule'.lane en er;
    }

-- what decoding answers to the file of a plan
pub back : (bs : List ℕ) (r : Result Plan FileFault) → Decodes bs r → Back bs r
back bs (Ok p) h f m rule nm e =
    same_file f p.fabric m p.lanes rule (rule_of p.table) nm
    (table_named (net f).switches p.table.switches (vec_items p.table.channels) (vec_items p.table.lanes)) (sym e ∙ h.1)
back bs (Err g) h f m rule nm e = by (file_refusal g) h
  where
    by : (o : Option Refusal) → MatchOption o (PlanFile bs) (Refused bs) → o ≡ None
    by None h = refl
    by (Some r) h = absurd (unrefused bs r (subst (λ (z : List ℕ). PlanFile z) (sym e) (fabric_file f m rule)) h)
