use Rattle.std.proofs.Common.{List, subst, arith}
use Rattle.std.specs.List.{AllZip}
use Rattle.lola_value.specs.declared.value.Kind.{Kind}
use Rattle.lola_model.specs.Trace.{IsFieldOf}
use Rattle.lola_rows.proofs.Composing.{kinds-are}
use Rattle.lola_rows.proofs.laws.rows_fit.Goals as goal

pub returns : goal.returns
returns c = λ plan index most given row small few is. record {
  fields = subst (λ (ks : List Kind). AllZip IsFieldOf ks row.fields) (kinds-are plan.spec.streams) is.fields;
  source = omega (arith, is.source);
  number = omega (arith, is.within);
  stamp = is.stamp;
  mark = tt;
}
