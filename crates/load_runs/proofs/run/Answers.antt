-- `run` meets its contract: what was read decides, and nothing is written where a read failed.
use Rattle.std.proofs.Common.{[], refl, ◌∙◌, arith}
use Rattle.load_runs.proofs.Reading.{full-decides}
use Rattle.load_runs.proofs.run.Goals as goal

pub returns-in-Err : goal.returns-in-Err
returns-in-Err g c =
    let r = c.read_input-read in
    record {
      within = r.ensures;
      full = λ e more. full-decides r.new.input more _ (omega (arith, r.auto.input, c.requires)) e;
      written = [];
      all = c.load_of-rest.ensures;
      unread = λ e. refl;
      whole = λ e. cc;
    }

pub returns : goal.returns
returns g c =
    let r = c.read_input-read in
    let printed = c.print_all-ending.ensures in
    record {
      within = r.ensures;
      full = λ e more. full-decides r.new.input more _ (omega (arith, r.auto.input, c.requires)) e;
      written = printed.written;
      all = printed.all ∙ c.load_of-rest.ensures;
      unread = λ e. absurd (printed.was_read e);
      whole = printed.whole;
    }
