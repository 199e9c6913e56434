use Rattle.magnetar_field.specs.Gf128.{value}
use Rattle.magnetar_prover.proofs.Bound.{three-a, three-b, three-c, three-e}
use Rattle.magnetar_prover.proofs.outer.Turn.fold.Goals as goal

pub returns : goal.returns
returns c = let x = c.args in
    let p = c.requires in record {
      a = three-a x.s.now x.self.w x.self.n x.self.v (value x.r) p.table p.s_len.0 p.s_len.2 c.bind_var-one.new.table c.bind_var-two.new.table
          c.bind_var-all.new.table c.bind_var-one.ensures.bound c.bind_var-two.ensures.bound c.bind_var-all.ensures.bound;
      b = three-b x.s.now x.self.w x.self.n x.self.v (value x.r) p.table p.s_len.0 p.s_len.2 c.bind_var-one.new.table c.bind_var-two.new.table
          c.bind_var-all.new.table c.bind_var-one.ensures.bound c.bind_var-two.ensures.bound c.bind_var-all.ensures.bound;
      c = three-c x.s.now x.self.w x.self.n x.self.v (value x.r)
          p.table p.s_len.0 p.s_len.2 c.bind_var-one.new.table c.bind_var-two.new.table c.bind_var-all.new.table c.bind_var-one.ensures.bound
          c.bind_var-two.ensures.bound c.bind_var-all.ensures.bound;
      e = three-e x.s.now x.self.w x.self.n x.self.v (value x.r) p.table p.s_len.0 p.s_len.2 c.bind_var-one.new.table c.bind_var-two.new.table
          c.bind_var-all.new.table c.bind_var-one.ensures.bound c.bind_var-two.ensures.bound c.bind_var-all.ensures.bound;
    }
