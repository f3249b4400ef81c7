pub mod ConvertTheorems
