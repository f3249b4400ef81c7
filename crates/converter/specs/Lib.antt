pub mod ConverterLaws
