use Rattle.std.proofs.Common.{◌+◌, ◌-◌, length, drop, replicate, ap, sym, ◌∙◌, rules}
use Rattle.std.proofs.lemmas.List.{drop-replicate, drop-drop, places}
use Rattle.std.proofs.lemmas.Slice.{drop-put_mid}
use Rattle.pd.specs.Lengths.{longest}
use Rattle.pd.proofs.bytes.Bytes.append.Goals as goal

pub invariant_of-self : goal.invariant_of-self
invariant_of-self c =
    let n = c.args.self.now.len in
    let k = length c.args.more.now in
    let room = c.args.self.now.room in
    record {
      laid_out = record {
        fits = search (rules, c.args.self.now.laid_out);
        whole = search (rules, places, c.args.self.now.laid_out);
        blank =
            drop-put_mid n (n + k - n) room c.copy_from_slice.new.self (n + k) (search rules) (search rules) (search rules) ∙
            sym (drop-drop k n room) ∙
            ap (drop k) c.args.self.now.laid_out.blank ∙
            drop-replicate k (longest - n) 0 ∙
            ap (λ m. replicate m 0) (search rules);
      };
    }
