use Rattle.px_terms.proofs.InstanceSizes.{con_instance_size, match_instance_size}
use Rattle.px_terms.proofs.instance_sizes.+size_of_instance.Goals as goal

pub size_of_instance-returns-in-Con : goal.size_of_instance-returns-in-Con
size_of_instance-returns-in-Con t c = con_instance_size c.args.sigma.now c.args.t.now c.in-Con.datatype c.in-Con.con c.in-Con.types c.as_slice-in-Con.result.now c.as_slice-in-Con-2.result.now c.in-Con.fields c.as_slice-in-Con-3.result.now c.size_of_tys_instance.result c.size_of_terms_instance.result c.saturating_add.result c.saturating_add-in-Con.result c.in-Con.is c.as_slice-in-Con.ensures c.as_slice-in-Con-2.ensures c.as_slice-in-Con-3.ensures c.size_of_tys_instance.ensures c.size_of_terms_instance.ensures c.saturating_add.ensures c.saturating_add-in-Con.ensures

pub size_of_instance-returns-in-Match : goal.size_of_instance-returns-in-Match
size_of_instance-returns-in-Match t c = match_instance_size c.args.sigma.now c.args.t.now c.in-Match.on c.get.result.now c.in-Match.datatype c.in-Match.types c.as_slice-in-Match.result.now c.as_slice-in-Match-2.result.now c.in-Match.arms c.as_slice-in-Match-3.result.now c.size_of_instance.result c.size_of_tys_instance-in-Match.result c.size_of_terms_instance-in-Match.result c.saturating_add-in-Match.result c.saturating_add-in-Match-2.result c.saturating_add-in-Match-3.result c.in-Match.is c.get.ensures c.as_slice-in-Match.ensures c.as_slice-in-Match-2.ensures c.as_slice-in-Match-3.ensures c.size_of_instance.ensures c.size_of_tys_instance-in-Match.ensures c.size_of_terms_instance-in-Match.ensures c.saturating_add-in-Match.ensures c.saturating_add-in-Match-2.ensures c.saturating_add-in-Match-3.ensures
